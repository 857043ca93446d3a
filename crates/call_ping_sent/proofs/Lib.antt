pub mod Noting
pub mod Placing
pub mod PingSent
