pub mod Outcomes
pub mod Contradictions
pub mod Passing
pub mod Sieve
pub mod NotTaken
