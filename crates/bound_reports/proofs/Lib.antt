mod BoundLemmas
pub mod CommentLemmas
pub mod TightLemmas
pub mod VisitsReportLemmas
mod SummaryLemmas
