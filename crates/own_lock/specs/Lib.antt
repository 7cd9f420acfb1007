pub mod Entries
pub mod Rule
pub mod Steps
pub mod Passes
pub mod Waking
pub mod refinement
