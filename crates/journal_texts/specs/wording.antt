pub mod Words
pub mod Rules
pub mod Digits
pub mod Replies
pub mod refinement
