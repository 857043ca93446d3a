pub mod Payload
pub mod Kinds
