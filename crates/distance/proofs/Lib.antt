pub mod Laws
pub mod Buckets
pub mod LogDistance
