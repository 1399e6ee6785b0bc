pub mod PassLemmas
pub mod OrderLemmas
pub mod LinkLemmas
pub mod FlagLemmas
pub mod TellLemmas
pub mod SieveLemmas
mod RunLemmas
