pub mod DayEnds
pub mod FileEnds
