-- Texts that are put one after another.
use Rattle.std.proofs.Common.{◌≡◌, ◌∙◌, ◌++◌, List, ℕ, ap, append_assoc}

pub after : (old front back a b : List ℕ) → a ≡ old ++ front → b ≡ a ++ back → b ≡ old ++ (front ++ back)
after old front back a b is then = then ∙ ap (λ xs. xs ++ back) is ∙ append_assoc old front back
