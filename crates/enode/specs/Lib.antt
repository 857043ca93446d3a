pub mod Text
pub mod Reading
pub mod Spelling
pub mod Lists
