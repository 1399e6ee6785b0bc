mod AnyLaws
pub mod AssumedLaws
mod BurstLaws
mod ColumnLaws
mod DoneLaws
mod FoldingLaws
mod IdleLaws
mod ImageLaws
mod InstrLaws
mod LinkLaws
mod LoopPartLaws
mod LoopTableLaws
mod PricingLaws
pub mod RangeLaws
mod PartLaws
mod PartSumLaws
pub mod RowLaws
mod RuleLaws
mod ListedOnceLaws
mod MemberLaws
mod SetLaws
mod StartLaws
mod SourceLaws
mod SumLaws
mod TableLaws
mod TableRowLaws
pub mod TallyLaws
mod TellingLaws
mod ToldLaws
pub mod TotalLaws
