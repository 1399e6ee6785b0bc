mod TextLaws
pub mod RunLaws
pub mod AsciiLaws
mod LatelyLaws
