pub mod Sort
pub mod Nearest
