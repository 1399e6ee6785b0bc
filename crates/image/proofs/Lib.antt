pub mod WordLemmas
pub mod ZipLemmas
pub mod GapLemmas
mod LabelLemmas
pub mod PlaceLemmas
mod ReadLemmas
pub mod SegmentLemmas
mod RunLemmas
mod SpellLemmas
mod WrittenLemmas
mod RoomLemmas
pub mod AcceptLemmas
mod CutLemmas
mod FrontLemmas
mod TrailLemmas
pub mod PageLemmas
pub mod FittedLemmas
