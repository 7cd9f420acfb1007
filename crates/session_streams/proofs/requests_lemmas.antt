pub mod Parts
pub mod Tickets
pub mod Heard
pub mod Kept
pub mod Cut
pub mod AskedLines
pub mod Texts
