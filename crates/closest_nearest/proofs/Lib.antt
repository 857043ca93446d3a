pub mod Sort
pub mod Shift
pub mod Place
pub mod Held
