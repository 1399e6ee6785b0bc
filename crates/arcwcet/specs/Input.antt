-- What an input has left, and how often it failed.
use Rattle.std.specs.Prelude.{ℕ, List, Option, Result, Ok, Err}
use Rattle.outputs.specs.Output.{failed_once}

-- what reads will give, where it is known, and how many reads failed
pub record Left : Type 0 where
  pub remaining : Option (List ℕ)
  pub failures : ℕ

-- the count after a read: one more where it failed
abbrev pub failures_after_read : {E : Type 0} → Result ℕ E → ℕ → ℕ
failures_after_read (Ok n) before = before
failures_after_read (Err e) before = failed_once before
