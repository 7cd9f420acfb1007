pub mod Blocks
pub mod Places
pub mod Cuts
pub mod PlainLines
