pub mod Carried
pub mod Changed
pub mod Gains
pub mod Savings
pub mod Sections
