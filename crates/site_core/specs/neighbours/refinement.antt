pub mod Slots
pub mod PairsOfCode
