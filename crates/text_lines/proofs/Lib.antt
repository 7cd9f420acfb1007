mod Digits
mod FirstLine
pub mod FirstWord
mod AsciiNames
pub mod NamePlaces
mod short_lemmas
mod marked_lemmas
