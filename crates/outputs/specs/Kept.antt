-- What an output in memory keeps.
use Rattle.std.specs.Prelude.{ℕ, List}

-- the bytes that it took, the room that it was made with, in bytes, and its failures
pub record Kept : Type 0 where
  pub bytes : List ℕ
  pub room : ℕ
  pub failures : ℕ
