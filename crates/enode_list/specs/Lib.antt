pub mod List
pub mod Agreement
pub mod Steps
