pub mod ItemTurns
pub mod Payload
