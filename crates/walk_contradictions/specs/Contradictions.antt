-- Walks that no run takes: at two words of the walk the conditions come out as no flags have it.
use Rattle.std.specs.Prelude.{◌≡◌, ◌↔◌, ◌⊎◌, ℕ, true, List, ◌∷◌, ◌++◌, Contains, codes}
use Rattle.std.specs.List.Sorted.{IsStrictlySortedBy}
use Rattle.std.specs.Ordering.{nat_cmp}
use Rattle.control_flow.specs.declared.edges.Edge.{Edge}
use Rattle.image.specs.Image.{Words}
use Rattle.sources.specs.declared.read.Source.{Source}
use Rattle.text_explained.specs.Assumed.{IsSection}
use Rattle.text_explained.specs.Taken.{is_at}
use Rattle.walk_contradictions.specs.Outcomes.{Exclude, NoneSets, Tells}
use Rattle.walk_contradictions.specs.declared.outcomes.Outcome.{Outcome}

-- One edge of the walk comes after the other, the outcomes of their conditions exclude one another, and no
-- word from the first on and before the second may set the flags.
pub record Contradicts (words : Words) (walk : List Edge) (first second : Edge) : Type 0 where
  pub before : List Edge
  pub between : List Edge
  pub behind : List Edge
  pub walk_is : walk ≡ before ++ (first ∷ between) ++ second ∷ behind
  pub none_sets : NoneSets words (first ∷ between)
  pub one : Outcome
  pub other : Outcome
  pub tells_one : Tells words first one
  pub tells_other : Tells words second other
  pub excluded : Exclude one other

-- the address is that of one of two such words
pub record IsContradicted (words : Words) (walk : List Edge) (a : ℕ) : Type 0 where
  pub first : Edge
  pub second : Edge
  pub contradicts : Contradicts words walk first second
  pub is_one : (is_at a first.from ≡ true) ⊎ (is_at a second.from ≡ true)

-- exactly the addresses of such words, ascending
pub record AreContradicted (words : Words) (walk : List Edge) (named : List ℕ) : Type 0 where
  pub ascending : IsStrictlySortedBy nat_cmp named
  pub each : (a : ℕ) → Contains named a ↔ IsContradicted words walk a

abbrev pub contradiction_heading : List ℕ
contradiction_heading =
    codes "\nWithout visits no run takes this path, as these conditions exclude one another "
    ++ codes "(the bound is safe):\n"

-- the rows of exactly these words under the heading; nothing where there are none
abbrev pub IsContradictionSection : Source → Words → (walk : List Edge) → (text : List ℕ) → Type 0
IsContradictionSection source words walk = IsSection source contradiction_heading (AreContradicted words walk)
