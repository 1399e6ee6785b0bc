pub mod Entry
pub mod Longest
pub mod Response
pub mod Arriving
pub mod Visited
