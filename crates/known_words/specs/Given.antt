-- Facts on registers before the first step.
use Rattle.std.specs.Prelude.{ℕ, ◌≤◌, List, Contains}
use Rattle.arm2_effect.specs.Operands.{current_in}
use Rattle.known_words.specs.declared.given.Given.{Given}

-- each fact holds of the registers before the first step
abbrev pub AreGiven : List Given → (entry : List ℕ) → Type 0
AreGiven given entry =
    (g : Given) → Contains given g
    → (g.low ≤ current_in g.register entry) × (current_in g.register entry ≤ g.high)
