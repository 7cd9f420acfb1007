pub mod IdleOffices
pub mod Walked
pub mod Fitting
pub mod EachOnce
pub mod TextsRead
pub mod Programs
