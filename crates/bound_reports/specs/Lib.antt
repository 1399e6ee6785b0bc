pub mod Bound
pub mod TightReport
pub mod TightText
pub mod VisitsReport
