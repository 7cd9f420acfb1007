pub mod Fault
pub mod Journals
pub mod Places
pub mod Days
pub mod secrets
