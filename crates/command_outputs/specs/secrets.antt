pub mod Files
pub mod refinement
