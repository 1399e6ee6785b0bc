-- The places in a loop are the members of its instances.
use Rattle.std.proofs.Common.{◌≡◌, ◌∙◌, ℕ, Bool, true, false, ◌||◌, List, [], ◌∷◌, ◌++◌, nat_eq, refl, sym, ap, arith}
use Rattle.std.specs.Prelude.{◌↔◌, ◌&&◌}
use Rattle.std.specs.List.{list_any}
use Rattle.std.proofs.lemmas.Bool.{and_parts, false≢true}
use Rattle.std.proofs.lemmas.Bool.Decides.{nat_tests}
use Rattle.control_flow.specs.declared.places.Place.{Place}
use Rattle.control_flow.specs.declared.places.Place.TheVariants.{At, Exit}
use Rattle.loop_bounds.specs.Instance.{holds, instance_of, is_member}
use Rattle.statement.specs.Stated.{lies_within}
use Rattle.statement.specs.declared.apart.ApartStretch.{ApartStretch}
use Rattle.statement.specs.declared.stated.Loop.{Loop}
use Rattle.text_explained.specs.Sums.{is_in_loop}

same : (x : ℕ) → nat_eq x x ≡ true
same x = grind (arith, nat_tests)

or_later : (b x y : Bool) → (x || y) ≡ true → ((b || x) || y) ≡ true
or_later true x y h = refl
or_later false x y h = h

module _ (apart : List ApartStretch) (l : Loop) where
  abbrev lies : ℕ → Bool
  lies x = lies_within apart l.first x l.last

  abbrev has : List ℕ → List ℕ → Bool
  has list key = holds apart l.first l.last list key

  -- the first call that lies in the loop, or the word, comes after the calls of an instance
  by_first : (c : ℕ) (calls : List ℕ) (a : ℕ) → ((list_any lies calls || lies a) ≡ true → (list : List ℕ) × (has list (calls ++ a ∷ []) ≡ true))
      → ((lies c || list_any lies calls) || lies a) ≡ true → (b : Bool) → lies c ≡ b → (list : List ℕ) × (has list (c ∷ (calls ++ a ∷ [])) ≡ true)
  by_first c calls a later is true here = ([], here)
  by_first c calls a later is false other =
      let rest : (list_any lies calls || lies a) ≡ true = sym (ap (λ b. (b || list_any lies calls) || lies a) other) ∙ is in
      let w = later rest in
      (c ∷ w.0, ap (λ b. b && has w.0 (calls ++ a ∷ [])) (same c) ∙ w.1)

  some_list : (calls : List ℕ) (a : ℕ) → (list_any lies calls || lies a) ≡ true → (list : List ℕ) × (has list (calls ++ a ∷ []) ≡ true)
  some_list [] a is = ([], is)
  some_list (c ∷ calls) a is = by_first c calls a (some_list calls a) is (lies c) refl

  from_list : (list calls : List ℕ) (a : ℕ) → has list (calls ++ a ∷ []) ≡ true → (list_any lies calls || lies a) ≡ true
  from_list [] [] a h = h
  from_list [] (c ∷ calls) a h = ap (λ b. (b || list_any lies calls) || lies a) h
  from_list (x ∷ []) [] a h = absurd (false≢true ((and_parts (nat_eq a x) false h).1))
  from_list (x ∷ y ∷ list) [] a h = absurd (false≢true ((and_parts (nat_eq a x) false h).1))
  from_list (x ∷ list) (c ∷ calls) a h =
      or_later (lies c) (list_any lies calls) (lies a) (from_list list calls a (and_parts (nat_eq c x) (has list (calls ++ a ∷ [])) h).1)

  pub members : (p : Place) → (is_in_loop apart l p ≡ true) ↔ ((list : List ℕ) × (is_member (instance_of apart l list) p ≡ true))
  members (At calls a) = (some_list calls a, λ w. from_list w.0 calls a w.1)
  members Exit = (λ h. ([], h), λ w. w.1)
