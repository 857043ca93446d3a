pub mod Laws
pub mod ByKey
