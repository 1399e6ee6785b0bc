pub mod HeldBackLemmas
pub mod ReachLemmas
pub mod RespondLemmas
pub mod TextLemmas
pub mod VisitedRunLemmas
pub mod VisitsLemmas
pub mod ServedEveryLemmas
