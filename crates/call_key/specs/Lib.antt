pub mod Number
pub mod Head
pub mod Held
pub mod Kept
pub mod Named
pub mod Steps
