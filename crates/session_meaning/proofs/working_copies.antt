pub mod RecordLookup
pub mod SortedSlots
