pub mod Steps
pub mod Tracking
pub mod Claims
