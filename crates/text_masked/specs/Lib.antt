pub mod Steps
pub mod Shown
pub mod Stretches
pub mod Held
pub mod Masked
pub mod Sections
