pub mod Fronts
pub mod PageLaws
