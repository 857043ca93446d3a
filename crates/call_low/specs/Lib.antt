pub mod Got
pub mod Steps
