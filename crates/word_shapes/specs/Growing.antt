-- Lists to whose ends a search adds, and sets of what is in them. No part of what is reported: they are
-- here since clauses of private functions cite them.
use Rattle.std.specs.Prelude.{◌≡◌, ◌⊎◌, ◌↔◌, List, [], ◌∷◌, ◌++◌, length, Contains, IsTrue}
use Rattle.std.specs.BTreeSet.{BTreeSet, contains, btree_set_len}
use Rattle.std.specs.declared.cmp.Ordering.{Ordering}

-- the set, in that order, and the list have the same members, each once
pub record HasSameMembers {X : Type 0} (cmp : X → X → Ordering) (set : BTreeSet X) (list : List X)
    : Type 0 where
  pub same : (x : X) → (IsTrue (contains cmp set x)) ↔ Contains list x
  pub count : length list ≡ btree_set_len set

module _ {X : Type 0} (HasRoom : List X → Type 0) where
  -- one more, unless it is there or there is no room for it
  abbrev pub Adds : List X → X → List X → Type 0
  Adds old x new = ((new ≡ old) × (HasRoom old → Contains old x)) ⊎ (new ≡ old ++ x ∷ [])

  -- those more and no others: all, or as many as there is room for
  pub record Grows (P : X → Type 0) (old new : List X) : Type 0 where
    pub more : (rest : List X) × (new ≡ old ++ rest)
    pub from : (x : X) → Contains new x → Contains old x ⊎ P x
    pub to : HasRoom new → (x : X) → P x → Contains new x
