pub mod Model
pub mod Keccak
pub mod Words
pub mod Demand3
pub mod Chain
