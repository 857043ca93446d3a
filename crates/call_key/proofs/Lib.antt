pub mod Places
pub mod Heads
pub mod Founds
pub mod Kept
pub mod Named
