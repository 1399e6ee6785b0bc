pub mod Readings
pub mod Documents
pub mod Lowest
pub mod Lists
