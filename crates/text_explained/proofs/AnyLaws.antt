-- Tests of which one element has to pass.
use Rattle.std.proofs.Common.{◌≡◌, ◌∙◌, ℕ, ◌+◌, ◌<◌, ◌≤◌, Bool, true, ◌||◌, List, length, get_or, take, ◌⊎◌, inl, inr, ⊎_elim, sym, ap}
use Rattle.std.specs.Prelude.{◌↔◌}
use Rattle.std.specs.Cmp.{both_ways}
use Rattle.std.specs.List.{list_any}
use Rattle.std.proofs.lemmas.Bool.{or_cases, or_right}
use Rattle.std.proofs.lemmas.List.{take_all}
use Rattle.std.proofs.lemmas.List.Folds.{list_any_more}

module _ {X : Type 0} (p : ℕ → X → Bool) (xs : List X) where
  -- of the first so many elements one passes the test of each number exactly where `answers` says so
  abbrev pub AnswerFront : (ℕ → Bool) → ℕ → Type 0
  AnswerFront answers k = (a : ℕ) → (answers a ≡ true) ↔ (list_any (p a) (take k xs) ≡ true)

  pub answers_more : (old new : ℕ → Bool) (k : ℕ) (d : X) → k < length xs → AnswerFront old k
      → ((a : ℕ) → (new a ≡ true) ↔ ((old a ≡ true) ⊎ (p a (get_or xs k d) ≡ true))) → AnswerFront new (k + 1)
  answers_more old new k d lt before more a =
      let front = list_any (p a) (take k xs) in
      let last = p a (get_or xs k d) in
      let step : list_any (p a) (take (k + 1) xs) ≡ (front || last) = list_any_more (p a) xs k d lt in (
        λ h. step ∙ ⊎_elim (λ was. ap (λ b. b || last) ((before a).0 was)) (λ here. or_right front last here) ((more a).0 h),
        λ h. (more a).1 (⊎_elim (λ was. inl ((before a).1 was)) (λ here. inr here) (or_cases front last (sym step ∙ h))),
      )

  pub answers_all : (answers : ℕ → Bool) (k : ℕ) → length xs ≤ k → AnswerFront answers k → (a : ℕ) → answers a ≡ list_any (p a) xs
  answers_all answers k le are a =
      let whole : list_any (p a) (take k xs) ≡ list_any (p a) xs = ap (list_any (p a)) (take_all k xs le) in
      both_ways (answers a) (list_any (p a) (take k xs)) ((are a).0) ((are a).1) ∙ whole
