pub mod Names
pub mod refinement
