pub mod Records
pub mod Header
pub mod Table
pub mod Entries
pub mod Home
pub mod Sound
pub mod Fresh
