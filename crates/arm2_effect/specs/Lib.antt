pub mod Modes
pub mod ProgramCounter
pub mod Effects
pub mod Exceptions
pub mod Operands
pub mod Outcomes
pub mod Operations
