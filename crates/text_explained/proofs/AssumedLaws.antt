-- Which addresses are named.
use Rattle.std.proofs.Common.{◌≡◌, ◌∙◌, ℕ, ◌+◌, ◌<◌, ◌≤◌, Bool, true, false, ◌||◌, ◌⊎◌, eqb, List, length, get_or, take, Result, Ok, Err, Option, Some, None, inl, inr, ⊎_elim, refl, sym, ap, subst, arith}
use Rattle.std.specs.Prelude.{◌↔◌, Contains, is_some, not, option_map}
use Rattle.std.specs.BTreeSet.{BTreeSet, contains}
use Rattle.std.specs.List.{list_any}
use Rattle.std.specs.List.Sorted.{IsBinarySearchResult, IsStrictlySortedBy}
use Rattle.std.specs.Ordering.{nat_cmp}
use Rattle.std.specs.Result.{IfOk, MatchResult, is_ok}
use Rattle.std.specs.declared.cmp.Ordering.TheVariants.{Less}
use Rattle.std.proofs.lemmas.Bool.{cases_lt, eq-eqb, eqb-true, false≢true, ne_eqb, or_cases, or_right}
use Rattle.std.proofs.lemmas.Bool.Decides.{nat_tests}
use Rattle.std.proofs.lemmas.Cmp.{nat_cmp_total}
use Rattle.std.proofs.lemmas.List.{take_all}
use Rattle.std.proofs.lemmas.List.Elements.{All-from_get_or}
use Rattle.std.proofs.lemmas.List.Folds.{list_any_at, list_any_more, list_any_none}
use Rattle.std.proofs.lemmas.List.Sorted.{searched}
use Rattle.std.proofs.lemmas.Map.Keys.{Less-from_sorted}
use Rattle.std.proofs.lemmas.Map.Lookups.{exact_unsigned}
use Rattle.std.proofs.lemmas.Map.Views.{btree_set_contains_iff}
use Rattle.control_flow.specs.declared.places.Place.{Place}
use Rattle.control_flow.specs.declared.places.Place.TheVariants.{At}
use Rattle.control_flow.specs.Flow.{Flow}
use Rattle.image.specs.Image.{Words}
use Rattle.statement.specs.Stated.{Stated}
use Rattle.text_explained.specs.Assumed.{AreAssumed, Assumes, Notes}
use Rattle.text_explained.specs.Taken.{is_at, is_reached}
use Rattle.text_explained.specs.declared.assumptions.Assumption.{Assumption}

-- ## One word

pub none_found : {A B : Type 0} (f : A → B) (found : Option A) (t : Option B) (r : Bool) → option_map f found ≡ t → is_some found ≡ not r → (r ≡ true) ↔ (t ≡ None)
none_found f None t true is some = (λ e. sym is, λ h. refl)
none_found f None t false is some = absurd (false≢true some)
none_found f (Some x) t true is some = absurd (false≢true (sym some))
none_found f (Some x) t false is some = (λ e. absurd (false≢true e), λ h. absurd (let both : Some (f x) ≡ None = is ∙ h in cc))

-- ## One place

-- the address of the place, of which that holds, is added; or nothing, where it does not hold
module _ (Holds : ℕ → Type 0) (place : Place) (calls : List ℕ) (at : ℕ) (is : place ≡ At calls at) where
  here_is : (a : ℕ) → is_at a place ≡ true → at ≡ a
  here_is a here = eqb-true at a (sym (ap (is_at a) is) ∙ here)

  pub one_noted : (old new : ℕ → Bool) → Holds at → ((a : ℕ) → (new a ≡ true) ↔ ((old a ≡ true) ⊎ (at ≡ a))) → Notes Holds place old new
  one_noted old new holds adds a = (
    λ h. ⊎_elim (λ was. inl was) (λ same. inr (ap (is_at a) is ∙ eq-eqb at a same, subst Holds same holds)) ((adds a).0 h),
    λ h. (adds a).1 (⊎_elim (λ was. inl was) (λ here. inr (here_is a here.0)) h),
  )

  pub none_noted : (old : ℕ → Bool) → (Holds at → ⊥) → Notes Holds place old old
  none_noted old none a = (
    λ h. inl h,
    λ h. ⊎_elim (λ was. was) (λ here. absurd (none (subst Holds (sym (here_is a here.0)) here.1))) h,
  )

-- ## All places

module _ (Holds : ℕ → Type 0) where
  pub noted : (places : List Place) (k : ℕ) (d : Place) (old new : ℕ → Bool) → k < length places
      → ((a : ℕ) → (old a ≡ true) ↔ ((is_reached (take k places) a ≡ true) × Holds a)) → Notes Holds (get_or places k d) old new
      → (a : ℕ) → (new a ≡ true) ↔ ((is_reached (take (k + 1) places) a ≡ true) × Holds a)
  noted places k d old new lt before notes a =
      let p = get_or places k d in
      let step : is_reached (take (k + 1) places) a ≡ (is_reached (take k places) a || is_at a p) =
      list_any_more (is_at a) places k d lt in (
        λ h. ⊎_elim
            (λ was. let w = (before a).0 was in (step ∙ ap (λ b. b || is_at a p) w.0, w.1))
            (λ here. (step ∙ or_right (is_reached (take k places) a) (is_at a p) here.0, here.1))
            ((notes a).0 h),
        λ h. (notes a).1 (⊎_elim (λ was. inl ((before a).1 (was, h.1))) (λ here. inr (here, h.1)) (or_cases (is_reached (take k places) a) (is_at a p) (sym step ∙ h.0))),
      )

pub both_ok : {T E : Type 0} (r : Result T E) (P Q R : T → Type 0) → ((x : T) → P x → Q x → R x) → IfOk r P → IfOk r Q → IfOk r R
both_ok (Ok x) P Q R f p q = f x p q
both_ok (Err e) P Q R f p q = tt

pub are_assumed : (image : Words) (st : Stated) (flow : Flow) (what : Assumption) (places : List Place) (k : ℕ) (set : BTreeSet ℕ) (items : List ℕ) → places ≡ flow.places → length places ≤ k
    → ((a : ℕ) → (contains nat_cmp set a ≡ true) ↔ ((is_reached (take k places) a ≡ true) × Assumes image st flow what a)) → items ≡ set.keys → IsStrictlySortedBy nat_cmp items → AreAssumed image st flow what items
are_assumed image st flow what places k set items are le known is ascending = record {
  ascending = ascending;
  each = λ a.
      let iff = btree_set_contains_iff nat_cmp_total exact_unsigned set a in
      let same : is_reached (take k places) a ≡ is_reached flow.places a = ap (λ (ps : List Place). is_reached ps a) (take_all k places le ∙ are) in (
        λ h. let w = (known a).0 (iff.1 (subst (λ xs. Contains xs a) is h)) in (sym same ∙ w.0, w.1),
        λ h. subst (λ xs. Contains xs a) (sym is) (iff.0 ((known a).1 (same ∙ h.0, h.1))),
      );
}

-- ## A named address

less : (x y : ℕ) → nat_cmp x y ≡ Less → x < y
less x y h = grind (arith, nat_tests)

rising : (xs : List ℕ) → IsStrictlySortedBy nat_cmp xs → (i j : ℕ) → i ≤ j → j < length xs → get_or xs i 0 ≤ get_or xs j 0
rising xs sorted i j le lt = ⊎_elim
    (λ (before : i < j). let l : get_or xs i 0 < get_or xs j 0 = less (get_or xs i 0) (get_or xs j 0) (Less-from_sorted nat_cmp xs i j 0 sorted before lt) in let goal : get_or xs i 0 ≤ get_or xs j 0 = omega arith in goal)
    (λ (ge : j ≤ i). let same : i ≡ j = omega arith in let eq : get_or xs i 0 ≡ get_or xs j 0 = ap (λ n. get_or xs n 0) same in let goal : get_or xs i 0 ≤ get_or xs j 0 = omega arith in goal)
    (cases_lt i j)

search_decides : (xs : List ℕ) (x : ℕ) (r : Result ℕ ℕ) → MatchResult r (λ i. (i < length xs) × (get_or xs i 0 ≡ x)) (λ i. (i ≤ length xs) × ((k : ℕ) → k < i → get_or xs k 0 < x) × ((k : ℕ) → i ≤ k → k < length xs → x < get_or xs k 0)) → is_ok r ≡ list_any (λ a. eqb a x) xs
search_decides xs x (Ok i) h = sym (list_any_at (λ a. eqb a x) xs i 0 h.0 (eq-eqb (get_or xs i 0) x h.1))
search_decides xs x (Err i) h = sym (list_any_none (λ a. eqb a x) xs (All-from_get_or (λ a. eqb a x ≡ false) xs 0 (λ k lt. ne_eqb (get_or xs k 0) x (λ same. ⊎_elim
    (λ (before : k < i). let l : get_or xs k 0 < x = h.1 k before in absurd (omega arith))
    (λ (after : i ≤ k). let l : x < get_or xs k 0 = h.2 k after lt in absurd (omega arith))
    (cases_lt k i)))))

pub named_decides : (xs : List ℕ) (x : ℕ) (r : Result ℕ ℕ) → IsStrictlySortedBy nat_cmp xs → IsBinarySearchResult (λ y. nat_cmp y x) xs r → is_ok r ≡ list_any (λ a. eqb a x) xs
named_decides xs x r sorted found = search_decides xs x r (searched xs x r found (rising xs sorted))
