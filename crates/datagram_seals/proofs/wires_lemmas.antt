pub mod Opened
pub mod Accounts
