pub mod Packet
