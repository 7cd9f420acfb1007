pub mod Readers
pub mod Resting
pub mod Records
pub mod refinement
pub mod reports
