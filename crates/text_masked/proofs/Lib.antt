mod HeldLemmas
mod TurnLemmas
mod OrderLemmas
mod CountLemmas
mod StretchLemmas
mod NoteLemmas
mod ShownLemmas
mod MarkLemmas
