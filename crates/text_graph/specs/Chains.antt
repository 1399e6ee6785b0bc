-- Chains of numbers, each of which goes on to its next or ends its chain.
use Rattle.std.specs.Prelude.{ℕ, zero, suc, ◌-◌, Bool, ◌&&◌, ◌==◌, not, if◌then◌else◌}
use Rattle.std.specs.Prelude.{List, [], ◌∷◌, length, slice_index}
use Rattle.std.specs.List.{list_any, range_with_len}

-- the first number of some, and the last
abbrev pub first_in : List ℕ → ℕ
first_in numbers = slice_index numbers 0

abbrev pub last_in : List ℕ → ℕ
last_in numbers = slice_index numbers (length numbers - 1)

module _ (goes_on : ℕ → Bool) (next : ℕ → ℕ) where
  -- a number, its next if it goes on, the next of that, and so forth: so many at most
  abbrev pub chain : (most first : ℕ) → List ℕ
  chain zero n = []
  chain (suc most) n = n ∷ (if goes_on n then chain most (next n) else [])

  -- no number below the end goes on to the number
  abbrev pub begins : (end : ℕ) → ℕ → Bool
  begins end k = not (list_any (λ n. goes_on n && next n == k) (range_with_len 0 end))
