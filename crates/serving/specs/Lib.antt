pub mod Rounds
pub mod Serving
pub mod ServingLaws
pub mod refinement
pub mod answers
