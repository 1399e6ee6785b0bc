pub mod Line
pub mod Rows
