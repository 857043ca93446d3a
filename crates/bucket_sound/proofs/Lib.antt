pub mod Tests
pub mod Forms
pub mod Steps
pub mod Exact
