-- What ties the code to the definitions beside this folder.
pub mod Opening
pub mod Reports
pub mod Ends
