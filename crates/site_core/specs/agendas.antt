pub mod Limits
pub mod Agenda
pub mod refinement
