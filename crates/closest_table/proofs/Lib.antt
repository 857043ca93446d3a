pub mod Entries
pub mod Take
pub mod Nearest
pub mod Walk
pub mod Ends
pub mod Most
