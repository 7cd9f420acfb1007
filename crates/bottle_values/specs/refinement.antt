pub mod Checked
pub mod Padding
