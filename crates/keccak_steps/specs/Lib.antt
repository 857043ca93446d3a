pub mod Lanes
pub mod Permutation
