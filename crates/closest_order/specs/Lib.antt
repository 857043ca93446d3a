pub mod Taking
pub mod Taken
