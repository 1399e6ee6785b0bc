mod LoadLemmas
pub mod PlanLemmas
pub mod MemoryLemmas
pub mod PlannedLemmas
