-- What ties the code to the definitions beside this folder.
pub mod Reading
pub mod Submits
pub mod Telling
pub mod Running
