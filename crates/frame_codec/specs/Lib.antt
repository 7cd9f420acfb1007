pub mod Frame
pub mod Header
pub mod Limits
pub mod Spelling
pub mod SpellingLaws
pub mod FaultText
pub mod refinement
