pub mod Bytewise
pub mod Hash
