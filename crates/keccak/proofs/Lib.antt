pub mod Absorbing
pub mod Laws
