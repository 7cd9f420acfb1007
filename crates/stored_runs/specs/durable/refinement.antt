pub mod Mailed
pub mod Faults
