pub mod Folded
pub mod Rows
pub mod Longest
pub mod Starts
pub mod Built
pub mod Ways
pub mod Visits
