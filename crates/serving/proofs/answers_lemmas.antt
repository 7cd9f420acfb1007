pub mod Numbered
pub mod Looked
pub mod Promises
pub mod Answered
