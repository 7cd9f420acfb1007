pub mod Letting
pub mod LettingLaws
pub mod Breaking
pub mod refinement
