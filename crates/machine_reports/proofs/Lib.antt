pub mod MachineLemmas
mod RunToLemmas
mod RunToReportLemmas
