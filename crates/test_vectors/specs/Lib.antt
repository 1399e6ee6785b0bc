pub mod Shape
pub mod Vector
pub mod Writing
