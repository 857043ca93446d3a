pub mod Items
pub mod Sizes
pub mod RoundTrip
pub mod Written
pub mod Bytes
pub mod Anew
pub mod Form
