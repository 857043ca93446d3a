pub mod Widened
pub mod Claims
