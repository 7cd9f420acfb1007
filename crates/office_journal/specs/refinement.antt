pub mod PackedEntries
pub mod JournalOfCode
