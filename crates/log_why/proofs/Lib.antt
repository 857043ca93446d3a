pub mod Trails
pub mod Places
pub mod Acts
pub mod Noted
pub mod Whole
