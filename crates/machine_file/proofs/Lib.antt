pub mod ProfileLemmas
mod PriceFaults
mod ProfileRuleLemmas
mod PriceTableLemmas
mod KeyFaults
mod MachineValueLemmas
mod OnceLemmas
mod PutWordLemmas
mod DeviceLemmas
mod DeviceStartLemmas
mod MachineRuleLemmas
mod FaultTableLemmas
mod KeyTableLemmas
mod TableOfLemmas
mod WrittenLemmas
pub mod InputLemmas
pub mod PageLemmas
pub mod StartLemmas
pub mod Unique
mod TestLemmas
mod RepeatLemmas
mod KeyNameLemmas
pub mod PlaceLemmas
mod SpotLemmas
pub mod PricePlaceLemmas
mod PriceSpotLemmas
