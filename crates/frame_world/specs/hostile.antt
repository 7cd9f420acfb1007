pub mod Hostile
pub mod Claims
