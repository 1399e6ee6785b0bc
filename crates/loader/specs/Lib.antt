pub mod PagePlan
pub mod Planned
pub mod Loading
