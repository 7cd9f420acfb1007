pub mod ShownEntries
pub mod KeptEntries
mod PackedKinds
pub mod pages_lemmas
