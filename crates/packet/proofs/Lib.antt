pub mod Made
pub mod Values
pub mod Accepted
pub mod Inversion
pub mod Nodes
pub mod NodeLists
pub mod Examples
