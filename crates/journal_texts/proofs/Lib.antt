mod ReadLines
mod Headers
mod Journals
mod Receiving
mod LegalEntries
mod WrittenLines
mod WrittenSoFar
mod OneJournal
mod WholeLines
mod TornTexts
pub mod wording_lemmas
