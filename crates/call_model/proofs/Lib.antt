pub mod Form
pub mod Step
pub mod Demand3
pub mod Numbers
pub mod AnyBytes
pub mod Wrong
pub mod IfAny
