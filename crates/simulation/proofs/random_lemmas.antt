pub mod TranquilOffices
pub mod Refusals
pub mod Running
