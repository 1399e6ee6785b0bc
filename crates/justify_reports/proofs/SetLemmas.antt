-- Sets of addresses.
use Rattle.std.proofs.Common.{◌≡◌, ◌∙◌, ℕ, ◌+◌, ◌<◌, ◌≤◌, Bool, true, false, List, [], length, get_or, take, refl, sym, ap}
use Rattle.std.specs.Prelude.{◌||◌, ◌==◌}
use Rattle.std.specs.List.{list_any}
use Rattle.std.proofs.lemmas.List.{take_all}
use Rattle.std.proofs.lemmas.List.Folds.{list_any_more}

or_assoc : (a b c : Bool) → ((a || b) || c) ≡ (a || (b || c))
or_assoc true b c = refl
or_assoc false b c = refl

pub or_none : (a : Bool) → a ≡ (a || false)
or_none true = refl
or_none false = refl

module _ (xs : List ℕ) (first : ℕ → Bool) where
  -- those at first, and the first so many
  abbrev pub HasFront : (ℕ → Bool) → ℕ → Type 0
  HasFront has k = (a : ℕ) → has a ≡ (first a || list_any (λ b. b == a) (take k xs))

  pub front_more : (old new : ℕ → Bool) (k d : ℕ) → k < length xs → HasFront old k → ((a : ℕ) → new a ≡ (old a || (get_or xs k d == a)))
      → HasFront new (k + 1)
  front_more old new k d lt before put a =
      put a ∙ ap (λ t. t || (get_or xs k d == a)) (before a) ∙ or_assoc (first a) (list_any (λ b. b == a) (take k xs)) (get_or xs k d == a)
      ∙ ap (λ t. first a || t) (sym (list_any_more (λ b. b == a) xs k d lt))

  pub front_all : (has : ℕ → Bool) (k : ℕ) → length xs ≤ k → HasFront has k → (a : ℕ) → has a ≡ (first a || list_any (λ b. b == a) xs)
  front_all has k le are a = are a ∙ ap (λ (ys : List ℕ). first a || list_any (λ b. b == a) ys) (take_all k xs le)
