pub mod Codes
pub mod Sizes
