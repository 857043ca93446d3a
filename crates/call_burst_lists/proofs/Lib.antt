pub mod Sums
pub mod Whole
pub mod Parts
