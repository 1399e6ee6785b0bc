pub mod Ticks
pub mod Verdict
pub mod Lowest
pub mod RunLemmas
pub mod Chosen
pub mod MovedCases
pub mod Slots
pub mod BaseLemmas
