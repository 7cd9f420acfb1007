mod Reading
mod Submitting
pub mod Outcomes
pub mod Growing
mod Told
pub mod Running
pub mod Begun
mod Ending
mod Goes
mod durable_lemmas
