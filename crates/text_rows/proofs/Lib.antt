pub mod ColumnLaws
pub mod LineLaws
pub mod RowLaws
mod WordLineLaws
