pub mod WorldOfCode
pub mod Handing
pub mod Bottles
pub mod Orders
pub mod Marks
pub mod LeftWith
