pub mod Left
pub mod Counts
