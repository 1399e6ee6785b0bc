pub mod OriginLaws
pub mod RowLaws
pub mod SourceLaws
