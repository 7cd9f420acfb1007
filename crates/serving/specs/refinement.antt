pub mod Hearing
pub mod Asking
pub mod Telling
pub mod Rounding
