pub mod Inverse
pub mod Places
pub mod Runs
pub mod Fresh
pub mod Rom
pub mod Times
