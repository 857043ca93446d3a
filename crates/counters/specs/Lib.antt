pub mod Counters
pub mod History
