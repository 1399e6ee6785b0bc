-- Fronts of a text that is written piece by piece.
use Rattle.std.proofs.Common.{◌≡◌, ℕ, eqb, false, Result, Ok, ◌+◌, ◌-◌, ◌≤◌, List, ◌++◌, length, take, drop, refl, sym, ap, ◌∙◌, arith}
use Rattle.std.proofs.lemmas.List.{take-append-drop, length-take, length-drop, take_all}
use Rattle.std.proofs.lemmas.Bool.{ne_eqb}
use Rattle.std.proofs.Math.Seq.{take-append-add}
use Rattle.outputs.specs.Output.{failures_after}

-- a front, and a front of what is left
take-more : (xs : List ℕ) (a n : ℕ) → a ≤ length xs → take a xs ++ take n (drop a xs) ≡ take (a + n) xs
take-more xs a n le =
    let len : length (take a xs) ≡ a = omega (arith, length-take a xs) in
    let whole = take-append-add (take a xs) (drop a xs) n in
    sym whole ∙ rw (len, take-append-drop) refl

-- the same, of what is left as a slice `&xs[a..]`
pub take-rest : (xs : List ℕ) (a n : ℕ) → a ≤ length xs → take a xs ++ take n (take (length xs - a) (drop a xs)) ≡ take (a + n) xs
take-rest xs a n le =
    let all : take (length xs - a) (drop a xs) ≡ drop a xs = take_all (length xs - a) (drop a xs) (omega (arith, length-drop a xs)) in
    ap (λ (r : List ℕ). take a xs ++ take n r) all ∙ take-more xs a n le

-- a write that took something is no failure
pub no_failure : {E : Type 0} (r : Result ℕ E) (n : ℕ) (bytes : List ℕ) (old new : ℕ) → r ≡ Ok n → (n ≡ 0 → ⊥) → new ≡ failures_after r bytes old → new ≡ old
no_failure r n bytes old new was some e =
    let no : eqb n 0 ≡ false = ne_eqb n 0 some in
    rw (was, no) at e
