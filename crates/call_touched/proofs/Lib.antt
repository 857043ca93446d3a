pub mod Touch
pub mod Slots
pub mod Refusals
