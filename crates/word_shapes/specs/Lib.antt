pub mod Growing
pub mod Shapes
pub mod Words
