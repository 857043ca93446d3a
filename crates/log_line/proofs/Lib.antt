pub mod Spans
pub mod Reading
pub mod Found
pub mod Laws
pub mod Examples
pub mod Parting
pub mod Numbers
pub mod Decoded
