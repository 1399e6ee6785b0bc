pub mod Json
pub mod StepLine
pub mod Records
pub mod Planned
pub mod Facts
