-- A text put in pieces, one after another.
use Rattle.std.proofs.Common.{◌≡◌, ◌∙◌, ℕ, Bool, true, List, ◌++◌, refl, ap, append_assoc}
use Rattle.std.specs.List.{list_all}
use Rattle.std.proofs.lemmas.List.Folds.{list_all-append}

pub joined : (old mid new a b : List ℕ) → mid ≡ old ++ a → new ≡ mid ++ b → new ≡ old ++ (a ++ b)
joined old mid new a b one two = two ∙ ap (λ (xs : List ℕ). xs ++ b) one ∙ append_assoc old a b

pub three : {m1 m2 new : List ℕ} (old p1 p2 p3 : List ℕ) → m1 ≡ old ++ p1 → m2 ≡ m1 ++ p2 → new ≡ m2 ++ p3
    → new ≡ old ++ (p1 ++ (p2 ++ p3))
three {m1} {m2} {new} old p1 p2 p3 e1 e2 e3 =
    joined old m1 new p1 (p2 ++ p3) e1 (joined m1 m2 new p2 p3 e2 e3)

-- what holds of the bytes of both holds of those of the whole
pub all_append : (p : ℕ → Bool) (xs ys : List ℕ) → list_all p xs ≡ true → list_all p ys ≡ true
    → list_all p (xs ++ ys) ≡ true
all_append p xs ys h k = list_all-append p xs ys ∙ rw (h, k) refl
