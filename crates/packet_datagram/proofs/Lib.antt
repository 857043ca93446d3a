pub mod Short
pub mod Theorems
pub mod Refusals
pub mod Acceptance
