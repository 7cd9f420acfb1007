pub mod Drinkers
pub mod Worlds
pub mod Standstill
pub mod refinement
