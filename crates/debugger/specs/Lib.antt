pub mod Words
pub mod Faults
pub mod Commands
pub mod SessionState
pub mod Stepping
pub mod Watching
pub mod Answers
pub mod Conversation
