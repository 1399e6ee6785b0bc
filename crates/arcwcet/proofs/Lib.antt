pub mod FileLemmas
pub mod KeptRun
pub mod OneWord
pub mod RunLemmas
pub mod VisitedRun
