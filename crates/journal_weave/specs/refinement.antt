pub mod Finishers
pub mod Keys
pub mod Merging
pub mod Standing
