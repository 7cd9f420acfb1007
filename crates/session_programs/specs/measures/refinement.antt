pub mod Extent
pub mod NodeFitting
