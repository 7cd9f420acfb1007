pub mod Keeping
pub mod Runs
pub mod refinement
pub mod durable
