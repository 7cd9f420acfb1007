pub mod Limits
pub mod Told
pub mod Framed
pub mod Kept
pub mod refinement
