pub mod Letting
pub mod Mailing
pub mod Faults
