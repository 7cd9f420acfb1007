pub mod PackedFrames
pub mod PagedEntries
