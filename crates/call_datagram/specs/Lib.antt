pub mod Steps
pub mod Received
