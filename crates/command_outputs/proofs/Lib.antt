pub mod JournalFiles
pub mod Obstacles
mod DayFiles
mod secrets_lemmas
