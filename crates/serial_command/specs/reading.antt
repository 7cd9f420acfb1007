pub mod Plans
pub mod Fault
pub mod Texts
