pub mod Windows
pub mod WindowLaws
pub mod Limits
pub mod Links
pub mod Streams
pub mod Two
pub mod FaultText
pub mod refinement
