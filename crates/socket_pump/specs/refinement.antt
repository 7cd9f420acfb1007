-- What ties the code to the definitions beside this folder.
pub mod Stages
pub mod Counts
pub mod Marking
