pub mod Bodies
pub mod Sizes
pub mod RoundTrip
