pub mod Walk
pub mod Giving
pub mod DeskCrosses
mod ByNumber
