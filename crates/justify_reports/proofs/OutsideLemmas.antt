-- Where words go outside of their classes: over one more place, and over all.
use Rattle.std.proofs.Common.{◌≡◌, ◌∙◌, ℕ, ◌+◌, ◌<◌, ◌≤◌, ◌==◌, true, false, cond, max, min, List, length, Option, Some, None, ⊎_elim, refl, sym, ap, subst, arith}
use Rattle.std.specs.Prelude.{unwrap_or}
use Rattle.std.proofs.Math.Nat.{le-max_left, le-max_right, max-eq_left, max-eq_right, min-eq_left, min-eq_right, min-le_left, min-le_right}
use Rattle.std.proofs.lemmas.Bool.{cases_Bool, cases_lt, cond-false, cond-true, eq-eqb, eqb-true, false≢true}
use Rattle.control_flow.specs.Flow.{Flow}
use Rattle.control_flow.specs.Places.{place_address}
use Rattle.control_flow.specs.declared.places.Place.TheVariants.{At, Exit}
use Rattle.loop_bounds.specs.Tree.{Tree, place_in}
use Rattle.known_words.specs.declared.words.Range.{Range}
use Rattle.known_places.specs.Outside.{outside_at}
use Rattle.justify_reports.specs.Outside.{AreFoundOutside, HasEnd, IsFoundOutside, IsHull, IsOutside, IsPartOf, IsPlaceAt, hull, with_place}

-- ## One address

module _ (IsThere : ℕ → Type 0) (ranges : List (Option Range)) (end : ℕ) where
  later : (end_of : Range → ℕ) (address : ℕ) → HasEnd IsThere ranges end end_of address → HasEnd IsThere ranges (end + 1) end_of address
  later end_of address h = record {
    number = h.number;
    inside = let lt = h.inside in omega (arith, lt);
    there = h.there;
    range = h.range;
    range_is = h.range_is;
    end_is = h.end_is;
  }

  same_end : (end_of : Range → ℕ) (a b : ℕ) → a ≡ b → HasEnd IsThere ranges end end_of a → HasEnd IsThere ranges end end_of b
  same_end end_of a b same = subst (HasEnd IsThere ranges end end_of) same

  -- a place that is elsewhere
  pub passed_by : (found : Option (Option Range)) → (IsThere end → ⊥) → IsFoundOutside IsThere ranges end found → IsFoundOutside IsThere ranges (end + 1) found
  passed_by None out none = λ k lt there.
      ⊎_elim (λ (less : k < end). none k less there)
      (λ (more : end ≤ k). out (let same : k ≡ end = omega (arith, lt, more) in subst IsThere same there)) (cases_lt k end)
  passed_by (Some None) out (k, inside, there, is) = (k, omega (arith, inside), there, is)
  passed_by (Some (Some range)) out h = record {
    each = λ k lt there.
        ⊎_elim (λ (less : k < end). h.each k less there)
        (λ (more : end ≤ k). absurd (out (let same : k ≡ end = omega (arith, lt, more) in subst IsThere same there))) (cases_lt k end);
    lowest = later (λ r. r.low) range.low h.lowest;
    highest = later (λ r. r.high) range.high h.highest;
  }

  module _ (there : IsThere end) where
    at_end : (part : Range) → outside_at ranges end ≡ Some part → (end_of : Range → ℕ) → HasEnd IsThere ranges (end + 1) end_of (end_of part)
    at_end part is end_of = record { number = end; inside = omega arith; there = there; range = part; range_is = is; end_is = refl }

    low_of : (old part : Range) → outside_at ranges end ≡ Some part → HasEnd IsThere ranges end (λ r. r.low) old.low → HasEnd IsThere ranges (end + 1) (λ r. r.low) (min old.low part.low)
    low_of old part is h =
        ⊎_elim
        (λ (less : old.low < part.low). subst (HasEnd IsThere ranges (end + 1) (λ r. r.low)) (sym (min-eq_left (omega (arith, less)))) (later (λ r. r.low) old.low h))
        (λ (more : part.low ≤ old.low). subst (HasEnd IsThere ranges (end + 1) (λ r. r.low)) (sym (min-eq_right more)) (at_end part is (λ r. r.low)))
        (cases_lt old.low part.low)

    high_of : (old part : Range) → outside_at ranges end ≡ Some part → HasEnd IsThere ranges end (λ r. r.high) old.high → HasEnd IsThere ranges (end + 1) (λ r. r.high) (max old.high part.high)
    high_of old part is h =
        ⊎_elim
        (λ (less : old.high < part.high). subst (HasEnd IsThere ranges (end + 1) (λ r. r.high)) (sym (max-eq_right (omega (arith, less)))) (at_end part is (λ r. r.high)))
        (λ (more : part.high ≤ old.high). subst (HasEnd IsThere ranges (end + 1) (λ r. r.high)) (sym (max-eq_left more)) (later (λ r. r.high) old.high h))
        (cases_lt old.high part.high)

    wider : (o : Option Range) (old new : Range) → new.low ≤ old.low → old.high ≤ new.high → IsPartOf o old → IsPartOf o new
    wider None old new low high part = part
    wider (Some range) old new low high part = (let l = part.0 in omega (arith, low, l), let h = part.1 in omega (arith, high, h))

    here : (k : ℕ) (part new : Range) → end ≡ k → outside_at ranges end ≡ Some part → new.low ≤ part.low → part.high ≤ new.high → IsPartOf (outside_at ranges k) new
    here k part new same is low high =
        subst (λ n. IsPartOf (outside_at ranges n) new) same (subst (λ o. IsPartOf o new) (sym is) (low, high))

    pub one_there : (found : Option (Option Range)) (part : Option Range) → outside_at ranges end ≡ part → IsFoundOutside IsThere ranges end found
        → IsFoundOutside IsThere ranges (end + 1) (Some (with_place found part))
    one_there None None is none = (end, omega arith, there, is)
    one_there None (Some part) is none = record {
      each = λ k lt at.
          ⊎_elim (λ (less : k < end). absurd (none k less at))
          (λ (more : end ≤ k). here k part part (omega (arith, lt, more)) is (omega arith) (omega arith)) (cases_lt k end);
      lowest = at_end part is (λ r. r.low);
      highest = at_end part is (λ r. r.high);
    }
    one_there (Some None) part is (k, inside, at, unseen) = (k, omega (arith, inside), at, unseen)
    one_there (Some (Some old)) None is h = (end, omega arith, there, is)
    one_there (Some (Some old)) (Some part) is h = record {
      each = λ k lt at.
          ⊎_elim (λ (less : k < end). wider (outside_at ranges k) old (hull old part) (min-le_left old.low part.low) (le-max_left old.high part.high) (h.each k less at))
          (λ (more : end ≤ k). here k part (hull old part) (omega (arith, lt, more)) is (min-le_right old.low part.low) (le-max_right old.high part.high)) (cases_lt k end);
      lowest = low_of old part is h.lowest;
      highest = high_of old part is h.highest;
    }

-- ## All addresses

module _ (flow : Flow) (tree : Tree) (ranges : List (Option Range)) (number : ℕ) (old : ℕ → Option (Option Range)) where
  pub passed : place_in flow tree number ≡ Exit → AreFoundOutside flow tree ranges number old → AreFoundOutside flow tree ranges (number + 1) old
  passed exit found a =
      passed_by (IsPlaceAt flow tree a) ranges number (old a)
      (λ there. let both : Exit ≡ At there.0 a = sym exit ∙ there.1 in absurd (cc)) (found a)

  pub put : (calls : List ℕ) (at : ℕ) (range : Option Range) (new : ℕ → Option (Option Range)) → place_in flow tree number ≡ At calls at → outside_at ranges number ≡ range
      → ((a : ℕ) → new a ≡ cond (at == a) (Some (with_place (old at) range)) (old a))
      → AreFoundOutside flow tree ranges number old → AreFoundOutside flow tree ranges (number + 1) new
  put calls at range new place is puts found a = ⊎_elim
      (λ (own : (at == a) ≡ true).
      let same : at ≡ a = eqb-true at a own in
      subst (λ b. IsFoundOutside (IsPlaceAt flow tree b) ranges (number + 1) (new b)) same
      (subst (IsFoundOutside (IsPlaceAt flow tree at) ranges (number + 1))
      (sym (puts at ∙ cond-true (at == at) (Some (with_place (old at) range)) (old at) (eq-eqb at at refl)))
      (one_there (IsPlaceAt flow tree at) ranges number (calls, place) (old at) range is (found at))))
      (λ (apart : (at == a) ≡ false).
      subst (IsFoundOutside (IsPlaceAt flow tree a) ranges (number + 1))
      (sym (puts a ∙ cond-false (at == a) (Some (with_place (old at) range)) (old a) apart))
      (passed_by (IsPlaceAt flow tree a) ranges number (old a)
      (λ there. false≢true (sym apart ∙ eq-eqb at a (ap place_address (sym place ∙ there.1)))) (found a)))
      (cases_Bool (at == a))

-- ## Rows

pub is_outside : (flow : Flow) (tree : Tree) (ranges : List (Option Range)) (a : ℕ) (found : Option (Option Range))
    → IsFoundOutside (IsPlaceAt flow tree a) ranges (length flow.places) found → IsOutside flow tree ranges a (unwrap_or found None)
is_outside flow tree ranges a None none = λ range h. none h.lowest.number h.lowest.inside h.lowest.there
is_outside flow tree ranges a (Some None) (k, inside, there, unseen) = λ range h. subst (λ o. IsPartOf o range) unseen (h.each k inside there)
is_outside flow tree ranges a (Some (Some range)) h = h
