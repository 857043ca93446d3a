pub mod History
pub mod Order
