pub mod CutAtLine
pub mod CutOfPrefix
pub mod ReadOn
pub mod ReadInto
pub mod WordText
