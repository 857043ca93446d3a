pub mod Leaves
pub mod Calls
