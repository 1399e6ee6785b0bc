-- The order of places by their keys, in which the members of an instance are side by side. Keys are made of
-- where words lie for loops, so where some are apart this is not the order of addresses.
use Rattle.std.specs.Prelude.{◌≡◌, ℕ, ◌<◌, ◌≤◌, Bool, true, false, nat_lt, nat_eq, ◌&&◌, ◌||◌, List, [], ◌∷◌}
use Rattle.std.specs.Prelude.{◌++◌, length, map}
use Rattle.std.specs.Ordering.{nat_cmp}
use Rattle.std.specs.Cmp.Lexicographic.{slice_cmp}
use Rattle.std.specs.List.Sorted.{IsPermutation, IsSorted}
use Rattle.std.specs.declared.cmp.Ordering.{Ordering}
use Rattle.control_flow.specs.declared.places.Place.{Place}
use Rattle.control_flow.specs.declared.places.Place.TheVariants.{At, Exit}
use Rattle.control_flow.specs.Places.{place_at}
use Rattle.statement.specs.Stated.{lies_at}
use Rattle.statement.specs.declared.apart.ApartStretch.{ApartStretch}

-- where the calls and then the address lie for loops
abbrev pub key_of : List ApartStretch → Place → List ℕ
key_of apart (At calls address) = map (lies_at apart) (calls ++ address ∷ [])
key_of apart Exit = []

-- number by number, a prefix first
abbrev pub by_key : List ApartStretch → Place → Place → Ordering
by_key apart p q = slice_cmp nat_cmp (key_of apart p) (key_of apart q)

-- the same order, as a test
abbrev pub is_before : List ℕ → List ℕ → Bool
is_before [] [] = false
is_before [] (y ∷ ys) = true
is_before (x ∷ xs) [] = false
is_before (x ∷ xs) (y ∷ ys) = nat_lt x y || (nat_eq x y && is_before xs ys)

-- the same places, ascending by key
pub record IsListed (apart : List ApartStretch) (places listed : List Place) : Type 0 where
  pub moved : IsPermutation places listed
  pub ascending : IsSorted (by_key apart) listed

-- the places before the position are those whose keys come before this one
pub record IsPoint (apart : List ApartStretch) (listed : List Place) (key : List ℕ) (n : ℕ) : Type 0 where
  pub inside : n ≤ length listed
  pub below : (k : ℕ) → k < n → is_before (key_of apart (place_at listed k)) key ≡ true
  pub from : (k : ℕ) → n ≤ k → k < length listed → is_before (key_of apart (place_at listed k)) key ≡ false

-- ascending by key, and each place appears once
pub record AreByKey (apart : List ApartStretch) (listed : List Place) : Type 0 where
  pub ascending : IsSorted (by_key apart) listed
  pub once : (m n : ℕ) → m < length listed → n < length listed → place_at listed m ≡ place_at listed n → m ≡ n
