pub mod Bytes
pub mod Compare
