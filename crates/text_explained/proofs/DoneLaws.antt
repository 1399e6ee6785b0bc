-- Which of the named addresses are done.
use Rattle.std.proofs.Common.{◌≡◌, ℕ, Bool, true, List, sym, subst}
use Rattle.std.specs.Prelude.{◌↔◌, Contains}
use Rattle.std.specs.List.{filter}
use Rattle.std.specs.List.Sorted.{IsStrictlySortedBy}
use Rattle.std.specs.Ordering.{nat_cmp}
use Rattle.std.proofs.lemmas.List.Elements.{All-contains, All-contains_itself, All-filter, filter_passes}
use Rattle.std.proofs.lemmas.List.Kept.{IsStrictlySortedBy-filter}
use Rattle.loop_bounds.proofs.NestLemmas.{filter_has}
use Rattle.text_explained.specs.Assumed.{AreDone}

-- exactly those that pass
kept_are : (p : ℕ → Bool) (xs : List ℕ) (x : ℕ) → Contains (filter p xs) x ↔ (Contains xs x × (p x ≡ true))
kept_are p xs x = (
  λ c. (All-contains (Contains xs) (filter p xs) x (All-filter p (Contains xs) xs (All-contains_itself xs)) c, All-contains (λ (y : ℕ). p y ≡ true) (filter p xs) x (filter_passes p xs) c),
  λ h. filter_has p xs x h.0 h.1,
)

pub are_done : (p : ℕ → Bool) (all named : List ℕ) (AreNamed : List ℕ → Type 0) → AreNamed all → IsStrictlySortedBy nat_cmp all → named ≡ filter p all → AreDone (λ a. p a ≡ true) AreNamed named
are_done p all named AreNamed are ascending is = record {
  all = all;
  are_named = are;
  ascending = subst (IsStrictlySortedBy nat_cmp) (sym is) (IsStrictlySortedBy-filter nat_cmp p all ascending);
  each = λ a. subst (λ (xs : List ℕ). Contains xs a ↔ (Contains all a × (p a ≡ true))) (sym is) (kept_are p all a);
}
