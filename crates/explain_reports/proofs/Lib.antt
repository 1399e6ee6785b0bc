mod EachLemmas
pub mod CheckLemmas
mod VerdictLemmas
pub mod ExplainLemmas
mod FirstLemmas
pub mod GraphLemmas
mod PageLemmas
pub mod RunTimeLemmas
