pub mod Walk
pub mod Stretch
pub mod Greatest
pub mod Segments
pub mod Rows
