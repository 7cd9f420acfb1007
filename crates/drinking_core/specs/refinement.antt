pub mod Bars
pub mod Masks
