-- How the accesses of a base and a class are counted. No part of what a draft is: it is here since clauses of
-- private functions cite it.
use Rattle.std.specs.Prelude.{◌≡◌, ◌+◌, ◌*◌, ◌==◌, ◌<◌, ◌≤◌, ℕ, if◌then◌else◌, List, [], ◌∷◌, ◌++◌}
use Rattle.std.specs.Prelude.{length, map, slice_index_or, Option, Some, None}
use Rattle.std.specs.List.{slice_get}
use Rattle.arm2_decode.specs.Names.{register_number}
use Rattle.arm2_decode.specs.declared.names.Register.{Register}
use Rattle.bus_ticks.specs.declared.profile.Class.{Class}
use Rattle.image.specs.Image.{Words}
use Rattle.text_draft.specs.Rules.{Shows, class_number, count, of_both}
use Rattle.text_draft.specs.declared.accesses.FoundAccess.{FoundAccess}
use Rattle.text_draft.specs.declared.rules.FoundRule.{FoundRule}
use Rattle.text_draft.specs.declared.tallies.Tally.{Tally}

-- where the table has the tally of a base and a class
abbrev pub place_of : Register → Class → ℕ
place_of register class = register_number register * 8 + class_number class

abbrev pub none : Tally
none = record { count = 0; first = 0 }

-- of those: how many, and the address of the first
abbrev pub tally_of : List FoundAccess → Tally
tally_of [] = none
tally_of (e ∷ rest) = record { count = 1 + length rest; first = e.at }

-- one more
abbrev pub counted : Tally → ℕ → Tally
counted t at = record { count = t.count + 1; first = if t.count == 0 then at else t.first }

-- the table of all bases and classes
pub record AreTallies (accesses : List FoundAccess) (table : List Tally) : Type 0 where
  pub whole : length table ≡ 128
  pub each : (register : Register) (class : Class)
      → slice_index_or table (place_of register class) none ≡ tally_of (of_both accesses register class)

-- of the classes up to a number the one is most frequent
pub record Leads (accesses : List FoundAccess) (register : Register) (last : ℕ) (class : Class) : Type 0 where
  pub within : class_number class ≤ last
  pub most : (other : Class) → class_number other ≤ last
      → count accesses register other ≤ count accesses register class
  pub first : (other : Class) → class_number other < class_number class
      → count accesses register other < count accesses register class

-- one rule more, if there is one
abbrev pub with_rule : List FoundRule → Option FoundRule → List FoundRule
with_rule rules None = rules
with_rule rules (Some r) = rules ++ r ∷ []

-- the n-th word of the image shows the class by itself, or neither loads nor stores by R15; or there is none
abbrev pub ShowsNth : Words → ℕ → Class → Type 0
ShowsNth words n class = (at : ℕ) → slice_get (map (λ e. e.0) words) n ≡ Some at → Shows words at class
