mod AccessLaws
mod CandidateLaws
mod Explored
mod FlatLaws
mod GroundLaws
mod Mapped
mod Picked
mod RuleLaws
mod StatedLaws
pub mod TallyLaws
mod TargetLaws
mod WayLaws
