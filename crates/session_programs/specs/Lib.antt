pub mod Limits
pub mod Text
pub mod Program
pub mod WellFormed
pub mod Room
pub mod refinement
pub mod measures
pub mod sizes
