pub mod Shown
pub mod Watched
pub mod Late
