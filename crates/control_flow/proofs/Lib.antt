pub mod PlaceLemmas
pub mod FoundLemmas
pub mod GrowLemmas
pub mod SortedLemmas
mod Ascending
pub mod WorkLemmas
pub mod EdgeLemmas
pub mod StrayLemmas
pub mod BuildLemmas
mod FaultyLemmas
pub mod TurnLemmas
pub mod FlowLemmas
pub mod Firsts
pub mod Unique
pub mod LabelLemmas
pub mod NameLemmas
