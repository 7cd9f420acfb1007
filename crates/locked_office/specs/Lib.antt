pub mod Calls
pub mod Advance
pub mod Outcomes
pub mod Sends
pub mod refinement
