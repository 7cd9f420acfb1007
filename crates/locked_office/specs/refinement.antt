-- What ties the code to the definitions beside this folder.
pub mod Holding
pub mod Places
