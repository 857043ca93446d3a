pub mod Chosen
pub mod Nodes
