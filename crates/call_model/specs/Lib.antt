pub mod Reading
pub mod Calls
pub mod OverBytes
pub mod AnyBytes
pub mod Claims
pub mod IfAny
