-- A number that is capped as it is read.
use Rattle.std.proofs.Common.{◌≡◌, ℕ, ◌+◌, ◌*◌, ◌^◌, ◌<◌, ◌≤◌, List, [], ◌∷◌, refl, ap, arith, inl, inr}
use Rattle.std.specs.Prelude.{min, Option, Some, None}
use Rattle.std.proofs.lemmas.Bool.{le-ltb}
use Rattle.asm_text.specs.Numbers.{capped, fits}
use Rattle.std.proofs.lemmas.Bool.{cases_lt}
use Rattle.std.specs.Char.{digit_value}
use Rattle.std.specs.Str.Parse.{digits_value_after}

times_more : (v r : ℕ) → 0 < r → v ≤ v * r
times_more v r h = grind arith

cap_step : (limit r d v w : ℕ) → 0 < r → min v limit ≡ min w limit → min (v * r + d) limit ≡ min (w * r + d) limit
cap_step limit r d v w h e =
    elim (cases_lt v limit) [
      | inl lt ↦ let same : v ≡ w = omega arith in ap (λ (x : ℕ). min (x * r + d) limit) same
      | inr ge ↦ omega (arith, times_more v r h, times_more w r h)
    ]

pub cap_fold : (limit r : ℕ) (ds : List ℕ) (v w : ℕ) → 0 < r → min v limit ≡ min w limit → min (digits_value_after r v ds) limit ≡ min (digits_value_after r w ds) limit
cap_fold limit r [] v w h e = e
cap_fold limit r (d ∷ ds) v w h e = cap_fold limit r ds (v * r + digit_value d) (w * r + digit_value d) h (cap_step limit r (digit_value d) v w h e)

-- cut or not, it is the same number of 32 bits or none
pub fits_capped : (n : ℕ) → fits (Some (min n (2 ^ 32))) ≡ fits (Some n)
fits_capped n =
    elim (cases_lt n (2 ^ 32)) [
      | inl lt ↦ let same : min n (2 ^ 32) ≡ n = omega arith in rw same refl
      | inr ge ↦ let same : min n (2 ^ 32) ≡ 2 ^ 32 = omega arith in rw (same, le-ltb n (2 ^ 32) ge) refl
    ]

pub capped_fits : (o : Option ℕ) → fits (capped o) ≡ fits o
capped_fits None = refl
capped_fits (Some n) = fits_capped n
