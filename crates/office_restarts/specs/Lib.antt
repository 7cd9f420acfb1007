pub mod Lives
pub mod Restarts
pub mod Termination
