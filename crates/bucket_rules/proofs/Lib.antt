pub mod ByPosition
pub mod Laws
