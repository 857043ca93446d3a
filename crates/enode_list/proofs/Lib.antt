pub mod Planned
pub mod Shown
pub mod Agreement
