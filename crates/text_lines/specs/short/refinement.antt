pub mod Packing
pub mod PackingLaws
