pub mod SumLemmas
pub mod ShiftLemmas
pub mod HoldLemmas
pub mod ForgetLemmas
pub mod TransferLemmas
mod ImplyLemmas
mod TurningLemmas
