pub mod Packets
pub mod Accepted
pub mod Examples
