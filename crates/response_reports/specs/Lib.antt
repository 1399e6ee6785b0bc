pub mod Question
pub mod RespondReport
pub mod RespondText
pub mod RespondWork
pub mod ServedEvery
