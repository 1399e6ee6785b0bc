-- Texts on their way, one after the other.
use Rattle.std.proofs.Common.{◌≡◌, ℕ, List, ◌++◌, Option}
use Rattle.outputs.specs.OnTheWay.{Adds, Held}
use Rattle.outputs.proofs.PageLaws.{adds_both, adds_same}

module _ {O : Type 0} (taken : O → Option (List ℕ)) (failures : O → ℕ) where
  pub two : {a b c : O} {p q r : Held} {xs ys : List ℕ} → Adds taken failures a p b q xs
      → Adds taken failures b q c r ys → Adds taken failures a p c r (xs ++ ys)
  two {a} {b} {c} {p} {q} {r} {xs} {ys} first second = adds_both taken failures a b c p q r xs ys first second

  pub as_text : {a b : O} {p q : Held} {xs ys : List ℕ} → Adds taken failures a p b q xs → xs ≡ ys
      → Adds taken failures a p b q ys
  as_text {a} {b} {p} {q} {xs} {ys} adds e = adds_same taken failures a b p q xs ys e adds
