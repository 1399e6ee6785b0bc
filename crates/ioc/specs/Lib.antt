pub mod Timers
pub mod Interrupts
pub mod Registers
pub mod Law
pub mod LineNames
pub mod Countdown
