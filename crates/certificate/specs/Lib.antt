pub mod Words
pub mod Walk
pub mod Lines
pub mod Follows
pub mod Faults
pub mod Drafts
pub mod Written
