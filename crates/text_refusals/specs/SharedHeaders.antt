-- Two loops with one header.
use Rattle.std.specs.Prelude.{◌≡◌, ◌<◌, ℕ, List, length, slice_index_or}
use Rattle.statement.specs.declared.stated.Loop.{Loop}
use Rattle.loop_bounds.specs.Nest.{HasSharedHeader}

-- the two loops share their header
pub record IsSharedBy (loops : List Loop) (one other : Loop) : Type 0 where
  pub shared : HasSharedHeader loops
  pub one_is : (d : Loop) → slice_index_or loops shared.one d ≡ one
  pub other_is : (d : Loop) → slice_index_or loops shared.other d ≡ other

-- ## By index, which clauses of private calls speak of

abbrev pub HaveOneHeader : List Loop → ℕ → ℕ → Type 0
HaveOneHeader loops one other =
    (d : Loop) → (slice_index_or loops one d).header ≡ (slice_index_or loops other d).header

-- the loop at a later index has the header too
pub record SharesWith (loops : List Loop) (one other : ℕ) : Type 0 where
  pub later : one < other
  pub inside : other < length loops
  pub same : HaveOneHeader loops one other

-- no loop at a later index has
abbrev pub IsAlone : List Loop → ℕ → Type 0
IsAlone loops one = (other : ℕ) → SharesWith loops one other → ⊥
