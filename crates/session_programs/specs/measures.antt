pub mod Measures
pub mod Needs
pub mod Naming
pub mod Laws
pub mod refinement
