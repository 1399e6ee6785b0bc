-- The stated loops by where words lie for loops.
use Rattle.std.specs.Prelude.{◌≡◌, ℕ, ◌+◌, Bool, ◌==◌, ◌&&◌, ◌||◌, nat_le, List}
use Rattle.std.specs.BTreeMap.{BTreeMap}
use Rattle.std.specs.BTreeSet.{BTreeSet, contains}
use Rattle.std.specs.List.{list_any}
use Rattle.std.specs.Ordering.{nat_cmp}
use Rattle.statement.specs.Stated.{lies_at}
use Rattle.statement.specs.declared.apart.ApartStretch.{ApartStretch}
use Rattle.statement.specs.declared.stated.Loop.{Loop}
use Rattle.text_explained.specs.PartSums.{in_group, passes_at}

-- a word that lies there lies in the loop
abbrev pub spans : List ApartStretch → (at : ℕ) → Loop → Bool
spans apart at l = nat_le (lies_at apart l.first) at && nat_le at (lies_at apart l.last)

-- the loop's words begin there, or end before
abbrev pub is_cut : List ApartStretch → (at : ℕ) → Loop → Bool
is_cut apart at l = at == lies_at apart l.first || at == lies_at apart l.last + 1

-- the cuts are those of all loops, and under each stand the loops in which a word lies that lies there
pub record IsLoopTable (apart : List ApartStretch) (loops : List Loop) (cuts : BTreeSet ℕ)
    (groups : BTreeMap ℕ (BTreeSet ℕ)) : Type 0 where
  pub cut : (at : ℕ) → contains nat_cmp cuts at ≡ list_any (is_cut apart at) loops
  pub each : (at n : ℕ)
      → in_group groups at n ≡ (contains nat_cmp cuts at && passes_at loops (spans apart at) n)
