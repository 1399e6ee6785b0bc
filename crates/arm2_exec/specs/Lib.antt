pub mod State
pub mod Step
pub mod Work
pub mod Run
pub mod Kept
pub mod Lent
