pub mod Kept
pub mod OnTheWay
pub mod Output
