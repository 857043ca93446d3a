pub mod Lines
pub mod Steps
pub mod Feeding
pub mod Claims
