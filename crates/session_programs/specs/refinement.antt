pub mod Constants
pub mod Emission
pub mod NodeEmission
pub mod Closed
pub mod Plain
pub mod Listing
