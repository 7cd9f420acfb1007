pub mod Limits
pub mod Replies
pub mod RefusalText
pub mod Shown
pub mod refinement
pub mod pages
