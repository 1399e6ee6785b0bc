-- Lines that are shown one after another.
use Rattle.std.proofs.Common.{◌≡◌, ◌⊎◌, ◌++◌, ℕ, ◌-◌, ◌≤◌, List, [], ◌∷◌, Option, Result, Ok, Err, refl, subst, inl, inr, arith}
use Rattle.std.specs.Prelude.{MatchResult}
use Rattle.std.proofs.lemmas.Bool.{cases_lt}
use Rattle.progress.specs.Shown.{Shows, TakesLine}

module _ {E : Type 0} (taken : E → Option (List ℕ)) (failures : E → ℕ) where
  shows_all : (old between new : E) (lines more : List (List ℕ)) → Shows taken failures old between lines
      → Shows taken failures between new more → Shows taken failures old new (lines ++ more)
  shows_all old between new [] more same shows = subst (λ (e : E). Shows taken failures e new more) same shows
  shows_all old between new (line ∷ lines) more (next, took, rest) shows =
      (next, took, shows_all next between new lines more rest shows)

  pub shows_more : (old between new : E) (lines : List (List ℕ)) (line : List ℕ) → Shows taken failures old between lines
      → TakesLine taken failures between new line → Shows taken failures old new (lines ++ line ∷ [])
  shows_more old between new lines line shows took = shows_all old between new lines (line ∷ []) shows (new, took, refl)

-- what a call that writes a text answers
pub either : {T F : Type 0} (r : Result T F) (P Q : Type 0) → MatchResult r (λ _. P) (λ _. Q) → P ⊎ Q
either (Ok x) P Q h = inl h
either (Err e) P Q h = inr h

-- a loop from the first on ends at the last, or where it began
pub ends : (first last now : ℕ) → (first ≤ last → now ≤ last) → (last ≤ first → now ≡ first) → last ≤ now → now - first ≡ last - first
ends first last now up none past =
    elim (cases_lt last first) [
      | inl above ↦ let same : now ≡ first = none (omega (arith, above)) in omega (arith, same, above)
      | inr ordered ↦ omega (arith, up ordered, past)
    ]
