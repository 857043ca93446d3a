pub mod Laws
pub mod OnBytes
pub mod Later
