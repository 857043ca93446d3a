pub mod Kept
pub mod Replay
