pub mod Answers
pub mod Serial
pub mod Texts
pub mod reading
