pub mod Pieces
pub mod Sizes
pub mod Nodes
pub mod Bodies
pub mod Records
