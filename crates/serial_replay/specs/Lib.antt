pub mod Serial
pub mod refinement
