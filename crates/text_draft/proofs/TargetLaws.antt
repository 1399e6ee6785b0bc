-- Words that put an address of their own into R14.
use Rattle.std.proofs.Common.{◌≡◌, ℕ, Bool, true, false, ◌+◌, ◌<◌, List, [], ◌∷◌, ◌++◌, length, take, get_or, ⊎_elim, inr, refl, sym, ap, ◌∙◌, subst}
use Rattle.std.specs.Prelude.{◌↔◌, ◌⊎◌, ◌&&◌, Contains, IsTrue, not}
use Rattle.std.proofs.lemmas.Bool.{false≢true}
use Rattle.std.proofs.lemmas.List.{take_more}
use Rattle.std.proofs.lemmas.List.Elements.{Contains-push_cases}
use Rattle.text_draft.specs.Targets.{AnySetsLink}
use Rattle.image.specs.Image.{Words}

-- the answer on one turned round
pub trusted_if_none : (words : Words) (addresses : List ℕ) (b : Bool) → IsTrue b ↔ AnySetsLink words addresses
    → IsTrue (not b) ↔ (AnySetsLink words addresses → ⊥)
trusted_if_none words addresses true h = ((λ e. absurd (false≢true e)), (λ none. absurd (none (h.0 refl))))
trusted_if_none words addresses false h = ((λ e. λ any. absurd (false≢true (h.1 any))), (λ none. refl))

-- of none of the first so many of a list it holds, and of one more
pub none_more : (P : ℕ → Type 0) (xs : List ℕ) (i x : ℕ) → i < length xs → get_or xs i 0 ≡ x
    → ((a : ℕ) → Contains (take i xs) a → P a → ⊥) → (P x → ⊥) → (a : ℕ) → Contains (take (i + 1) xs) a → P a → ⊥
none_more P xs i x lt is none here a h p =
    let left : take (i + 1) xs ≡ take i xs ++ x ∷ [] = take_more xs i 0 lt ∙ ap (λ y. take i xs ++ y ∷ []) is in
    ⊎_elim (λ w. none a w p) (λ e. here (subst P (sym e) p))
    (Contains-push_cases (take i xs) x a (subst (λ t. Contains t a) left h))

-- the one, or the other unless it is odd, where it is not the one and is the other
pub other_unless_odd : (A B C : Type 0) (b : Bool) → (A → ⊥) → B → IsTrue b ↔ C → IsTrue (not b) ↔ (A ⊎ (B × (C → ⊥)))
other_unless_odd A B C true fails has h = (
  (λ e. absurd (false≢true e)),
  (λ w. ⊎_elim (λ a. absurd (fails a)) (λ p. absurd (p.1 (h.0 refl))) w),
)
other_unless_odd A B C false fails has h = ((λ e. inr (has, (λ x. absurd (false≢true (h.1 x))))), (λ w. refl))

-- both tests, the second one turned round
pub both_tests : (N O : Type 0) (t o : Bool) → IsTrue t ↔ N → IsTrue o ↔ O → IsTrue (t && not o) ↔ ((O → ⊥) × N)
both_tests N O false o ht ho = ((λ e. absurd (false≢true e)), (λ p. absurd (false≢true (ht.1 p.1))))
both_tests N O true true ht ho = ((λ e. absurd (false≢true e)), (λ p. absurd (p.0 (ho.0 refl))))
both_tests N O true false ht ho = ((λ e. ((λ x. absurd (false≢true (ho.1 x))), ht.0 refl)), (λ p. refl))
