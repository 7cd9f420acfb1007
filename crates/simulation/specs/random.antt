pub mod Runs
pub mod refinement
