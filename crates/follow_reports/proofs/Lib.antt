pub mod DifferenceLemmas
mod DoneLemmas
mod LineLemmas
mod VisitedLemmas
pub mod ExactLemmas
pub mod FollowLemmas
