-- Columns of numbers, and the places of numbers.
use Rattle.std.proofs.Common.{◌≡◌, ◌∙◌, ℕ, ◌+◌, ◌<◌, List, [], ◌∷◌, ◌++◌, get_or, ⊎_elim, sym, ap, arith, length-append}
use Rattle.std.proofs.lemmas.Bool.{cases_lt}
use Rattle.std.proofs.lemmas.List.{get_or_append_left}
use Rattle.std.proofs.Math.Seq.{get_or-append_seam}
use Rattle.cert_check.specs.Columns.{IsColumn}

pub column_more : (value : ℕ → ℕ) (limit : ℕ) (column : List ℕ) (x : ℕ) → x ≡ value limit → IsColumn value limit column → IsColumn value (limit + 1) (column ++ x ∷ [])
column_more value limit column x is old = record {
  whole = omega (arith, length-append column (x ∷ []), old.whole);
  each = λ n lt. ⊎_elim
      (λ (less : n < limit). get_or_append_left column (x ∷ []) 0 n (omega (arith, old.whole)) ∙ old.each n less)
      (λ high.
      let same : n ≡ limit = omega (arith, high) in
      ap (λ (k : ℕ). get_or (column ++ x ∷ []) k 0) (same ∙ sym old.whole) ∙ get_or-append_seam column x [] 0 ∙ is ∙ ap value (sym same))
      (cases_lt n limit);
}
