pub mod TableRow
pub mod Steps
pub mod Printout
pub mod Claims
