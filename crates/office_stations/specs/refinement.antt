-- What ties the code to the definitions beside this folder.
pub mod Standings
pub mod RoundLaws
