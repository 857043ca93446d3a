pub mod Datagram
pub mod Steps
