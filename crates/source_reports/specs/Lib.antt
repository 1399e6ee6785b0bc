pub mod Assembly
pub mod ListReport
pub mod PlainReport
pub mod DraftReport
pub mod Proved
pub mod Rounds
pub mod Standing
