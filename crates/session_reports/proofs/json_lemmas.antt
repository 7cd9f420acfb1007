pub mod Cutting
pub mod Names
pub mod Parts
pub mod Lines
pub mod Added
