pub mod Init
pub mod Steps
