pub mod Streams
pub mod StreamLaws
pub mod refinement
pub mod requests
