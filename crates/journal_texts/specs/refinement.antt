pub mod ReadLines
pub mod WrittenValues
