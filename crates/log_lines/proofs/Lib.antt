pub mod Pieces
pub mod Steps
pub mod Laws
pub mod Chunks
pub mod Found
