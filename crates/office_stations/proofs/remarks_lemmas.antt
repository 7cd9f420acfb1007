pub mod Kept
pub mod Programs
