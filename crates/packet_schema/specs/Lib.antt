pub mod Schema
pub mod Shapes
pub mod Torn
