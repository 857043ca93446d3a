pub mod Contents
pub mod Rules
pub mod Sound
pub mod Facts
pub mod Claims
