pub mod Datagram
pub mod Neighbors
pub mod Acceptance
