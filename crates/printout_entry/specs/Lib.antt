pub mod EntryRow
pub mod Parts
