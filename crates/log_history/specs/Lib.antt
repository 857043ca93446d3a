pub mod Past
pub mod Why
pub mod Trail
pub mod Claims
