pub mod WorstLemmas
pub mod LeaveLemmas
pub mod EntryLemmas
pub mod FetchLemmas
pub mod NumbersLemmas
