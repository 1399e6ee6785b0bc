pub mod Columns
pub mod Addresses
pub mod LineLabels
pub mod Lines
pub mod Rows
pub mod WordLines
