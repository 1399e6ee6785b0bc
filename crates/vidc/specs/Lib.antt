pub mod Frame
pub mod Video
pub mod Law
