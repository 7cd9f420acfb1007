pub mod Diners
pub mod Worlds
pub mod WayLaws
pub mod Standstill
pub mod FaultText
pub mod refinement
pub mod masks
