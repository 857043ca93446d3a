pub mod Layout
pub mod Sound
pub mod Facts
pub mod Claims
