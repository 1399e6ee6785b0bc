pub mod RemainderLemmas
pub mod FrameLemmas
pub mod VideoLemmas
