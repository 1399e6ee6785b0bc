-- Words apart as they are stored.
use Rattle.std.specs.Prelude.{◌≡◌, ◌&&◌, ℕ, Bool, List, nat_le}
use Rattle.std.specs.List.{list_any}
use Rattle.std.specs.List.Sorted.{IsNonDecreasingBy}
use Rattle.statement.specs.Stated.{is_apart}
use Rattle.statement.specs.declared.apart.ApartStretch.{ApartStretch}

-- the address lies from the first of the pair to the second
abbrev pub is_reached : ℕ → ℕ × ℕ → Bool
is_reached address reach = nat_le reach.0 address && nat_le address reach.1

abbrev pub are_reached : List (ℕ × ℕ) → ℕ → Bool
are_reached reaches address = list_any (is_reached address) reaches

-- the first and last addresses of the stretches, ascending by the first
pub record AreSorted (stretches : List ApartStretch) (reaches : List (ℕ × ℕ)) : Type 0 where
  pub firsts : IsNonDecreasingBy (λ r. r.0) reaches
  pub same : (address : ℕ) → are_reached reaches address ≡ is_apart stretches address

-- both parts of the pairs ascend, and together they have the addresses of which the test is true. So an
-- address is in one of them exactly where it is in the last of those that begin no later
pub record AreReaches (test : ℕ → Bool) (reaches : List (ℕ × ℕ)) : Type 0 where
  pub firsts : IsNonDecreasingBy (λ r. r.0) reaches
  pub lasts : IsNonDecreasingBy (λ r. r.1) reaches
  pub same : (address : ℕ) → are_reached reaches address ≡ test address
