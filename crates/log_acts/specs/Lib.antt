pub mod Acts
pub mod ActedLine
