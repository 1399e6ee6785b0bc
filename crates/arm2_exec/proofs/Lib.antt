mod WorkLemmas
mod MovedCases
pub mod TakenLemmas
pub mod StepLemmas
pub mod RunLemmas
