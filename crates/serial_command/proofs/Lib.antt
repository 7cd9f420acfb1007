mod Faults
mod Rows
pub mod reading_lemmas
