pub mod OfficeValues
pub mod OfficeOfCode
pub mod Giving
