pub mod Places
pub mod TwoLinksStep
