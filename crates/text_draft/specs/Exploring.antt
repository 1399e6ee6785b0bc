-- What the search for addresses does at each step. No part of what a draft is: it is here since clauses
-- of private functions cite it, and a clause may cite definitions of specs/ alone.
use Rattle.std.specs.Prelude.{◌⊎◌, ◌↔◌, ℕ, ◌<◌, ◌≤◌, List, length, Contains}
use Rattle.std.specs.BTreeSet.{BTreeSet}
use Rattle.std.specs.Ordering.{nat_cmp}
use Rattle.control_flow.specs.declared.search.TheConstants.{MOST_PLACES}
use Rattle.word_shapes.specs.Growing.{HasSameMembers}

-- the set and the list have the same addresses, each once, and no more than a graph may have places
pub record IsFound (seen : BTreeSet ℕ) (order : List ℕ) : Type 0 where
  pub members : HasSameMembers nat_cmp seen order
  pub few : length order ≤ MOST_PLACES

-- there is room for one more
abbrev pub HasRoom : List ℕ → Type 0
HasRoom order = length order < MOST_PLACES

-- all of those addresses more and no others
abbrev pub Gains : (ℕ → Type 0) → List ℕ → List ℕ → Type 0
Gains P old new = (at : ℕ) → Contains new at ↔ (Contains old at ⊎ P at)
