pub mod Spans
pub mod Nodes
