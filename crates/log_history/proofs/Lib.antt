pub mod Tells
pub mod Step
pub mod Held
pub mod Says
pub mod Removed
pub mod Tails
pub mod Why
