pub mod Swept
pub mod Model
pub mod Unchanged
pub mod Stays
pub mod OneBucket
