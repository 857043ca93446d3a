pub mod Fields
pub mod Answered
pub mod Lines
pub mod Kept
pub mod Replayed
pub mod Ending
