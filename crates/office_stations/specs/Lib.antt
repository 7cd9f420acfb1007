pub mod Addresses
pub mod Paces
pub mod Sessions
pub mod Rounds
pub mod Waits
pub mod refinement
pub mod remarks
