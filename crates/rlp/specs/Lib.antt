pub mod Numbers
pub mod Encoding
pub mod Reading
pub mod Claims
