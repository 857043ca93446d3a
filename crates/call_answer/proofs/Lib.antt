pub mod Pong
