-- The cycles that are stated of multiplies.
use Rattle.std.proofs.Common.{◌≡◌, ◌≤◌, ℕ, zero, suc, Bool, true, false, cond, eqb, max, min, List, [], ◌∷◌, Some, nat_eq, arith}
use Rattle.std.specs.Prelude.{All, unwrap_or}
use Rattle.std.specs.Map.{lookup}
use Rattle.shifter.specs.declared.shifts.TheConstants.{MOST_MULTIPLY_CYCLES}

abbrev AreFew : ℕ × ℕ → Type 0
AreFew m = (1 ≤ m.1) × (m.1 ≤ MOST_MULTIPLY_CYCLES)

pub cycles_few :
    (es : List (ℕ × ℕ)) (a : ℕ)
    → All AreFew es
    → (1 ≤ unwrap_or (lookup (nat_eq a) es) MOST_MULTIPLY_CYCLES)
    × (unwrap_or (lookup (nat_eq a) es) MOST_MULTIPLY_CYCLES ≤ MOST_MULTIPLY_CYCLES)
cycles_few [] a h = (omega arith, omega arith)
cycles_few (e ∷ es) a h =
    by_test (eqb a e.0) (h zero e (omega arith)) (cycles_few es a (λ k d low. h (suc k) d (omega arith)))
  where
    by_test :
        (b : Bool)
        → AreFew e
        → (1 ≤ unwrap_or (lookup (nat_eq a) es) MOST_MULTIPLY_CYCLES)
        × (unwrap_or (lookup (nat_eq a) es) MOST_MULTIPLY_CYCLES ≤ MOST_MULTIPLY_CYCLES)
        → (1 ≤ unwrap_or (cond b (Some e.1) (lookup (nat_eq a) es)) MOST_MULTIPLY_CYCLES)
        × (unwrap_or (cond b (Some e.1) (lookup (nat_eq a) es)) MOST_MULTIPLY_CYCLES ≤ MOST_MULTIPLY_CYCLES)
    by_test true first later = first
    by_test false first later = later

-- from 1 to 16 they are as they are stated
pub within_limits : (n : ℕ) → (1 ≤ n) × (n ≤ MOST_MULTIPLY_CYCLES) → max 1 (min MOST_MULTIPLY_CYCLES n) ≡ n
within_limits n h = let low = h.0 in let high = h.1 in omega arith
