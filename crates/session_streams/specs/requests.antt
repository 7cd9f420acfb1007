pub mod Requests
pub mod Bytes
pub mod RequestLaws
pub mod refinement
