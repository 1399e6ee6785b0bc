pub mod Stretches
pub mod SumLe
pub mod Soundness
pub mod Joins
pub mod Segments
pub mod Leading
pub mod RowLemmas
