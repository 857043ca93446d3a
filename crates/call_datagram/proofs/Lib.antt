pub mod Delivery
pub mod Datagram
pub mod Answered
