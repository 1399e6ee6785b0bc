pub mod Bus
pub mod Words
pub mod Registers
pub mod Moved
pub mod Single
pub mod Block
pub mod Operations
pub mod Bases
