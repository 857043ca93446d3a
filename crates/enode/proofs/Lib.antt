pub mod Reading
pub mod PortNumbers
pub mod Octets
pub mod Spelling
pub mod Examples
