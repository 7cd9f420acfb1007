pub mod Runs
pub mod Threads
pub mod refinement
pub mod live
