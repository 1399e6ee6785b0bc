pub mod Differences
pub mod DifferenceText
pub mod FollowReport
pub mod FollowText
pub mod FollowWork
pub mod FollowVisits
pub mod VisitedText
pub mod VisitedWork
