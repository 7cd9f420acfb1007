pub mod Days
pub mod RunNumbers
