mod CarriedLaws
mod FoundLaws
mod GainLaws
mod RowLaws
