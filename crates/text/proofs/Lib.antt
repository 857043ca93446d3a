pub mod Decimals
pub mod Hex
pub mod Marks
pub mod Examples
pub mod Lines
