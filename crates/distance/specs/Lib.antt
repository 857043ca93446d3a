pub mod Distance
pub mod Claims
