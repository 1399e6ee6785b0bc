pub mod Image
pub mod Inside
pub mod Labels
pub mod ImageBytes
pub mod Pages
pub mod Spelling
pub mod Writing
