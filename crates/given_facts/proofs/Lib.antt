mod TestLemmas
mod KeyNameLemmas
mod RepeatLemmas
pub mod PlaceLemmas
mod RuleLemmas
