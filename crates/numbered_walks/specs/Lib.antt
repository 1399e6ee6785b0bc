pub mod Ordered
pub mod Tables
pub mod Index
pub mod Found
pub mod Reach
