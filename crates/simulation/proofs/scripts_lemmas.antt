pub mod Scripts
pub mod ScriptLines
pub mod Steps
pub mod Advancing
pub mod Settling
pub mod Termination
pub mod OneWay
pub mod ToldActs
