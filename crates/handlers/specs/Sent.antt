-- What an output over a writer took.
use Rattle.std.specs.Prelude.{ℕ, List, Option}

-- what the writer holds, where it states that, and the failures
pub record Sent : Type 0 where
  pub written : Option (List ℕ)
  pub failures : ℕ
