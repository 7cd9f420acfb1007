pub mod Differences
pub mod SealsOpened
