pub mod Fresh
pub mod Keys
