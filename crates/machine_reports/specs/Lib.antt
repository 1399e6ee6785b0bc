pub mod Debug
pub mod Machine
pub mod RunTo
pub mod Vectors
