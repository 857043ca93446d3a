pub mod Decimals
pub mod Hex
pub mod Marks
pub mod Rows
pub mod Claims
pub mod Lines
