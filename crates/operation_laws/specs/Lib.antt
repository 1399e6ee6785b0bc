pub mod Left
pub mod Leaves
pub mod Keeps
