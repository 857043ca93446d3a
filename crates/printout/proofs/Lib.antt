pub mod Slots
pub mod HeadRows
pub mod Counts
pub mod Rows
pub mod Sizes
pub mod Distances
pub mod Example
