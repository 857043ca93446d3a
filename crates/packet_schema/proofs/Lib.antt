pub mod Turns
pub mod Shapes
pub mod Accepted
pub mod Torn
