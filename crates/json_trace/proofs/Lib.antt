mod WordsLaws
pub mod JsonLaws
mod TransferLaws
pub mod RecordLaws
mod PlainLaws
mod WriteLaws
