pub mod TraceText
pub mod Lately
