-- One more place found.
use Rattle.std.proofs.Common.{◌≡◌, ◌<◌, ◌≤◌, Bool, true, false, cond, List, [], ◌∷◌, ◌++◌, length, ◌⊎◌, inl, inr, ⊎_elim, refl, sym, ap, ◌∙◌, subst, arith, length-append, ◌+◌}
use Rattle.std.specs.Prelude.{IsTrue, Contains, ◌↔◌, not}
use Rattle.std.specs.Ordering.{is_eq}
use Rattle.std.specs.Cmp.{Equal-is, IsTotalOrder, tied_itself}
use Rattle.std.proofs.lemmas.Map.Lookups.{CmpEqualImpliesEq}
use Rattle.std.specs.BTreeSet as sorted
use Rattle.std.specs.BTreeSet.{BTreeSet, contains, btree_set_len}
use Rattle.std.specs.declared.cmp.Ordering.{Ordering}
use Rattle.std.specs.declared.cmp.Reverse.{Reverse}
use Rattle.std.proofs.lemmas.List.Elements.{Contains-push, Contains-push_cases, Contains-append_left}
use Rattle.control_flow.specs.declared.places.Place.{Place}
use Rattle.control_flow.specs.declared.places.Place.TheVariants.{Exit}
use Rattle.control_flow.specs.Search.{downwards, in_set, places_in, IsFound, IsCrowded}
use Rattle.control_flow.proofs.PlaceLemmas.{downwards_exact, downwards_total, places_ascend, places_have}
use Rattle.control_flow.proofs.Ascending.{length_ascending}

either : (b was : Bool) → was ≡ true → cond b true was ≡ true
either true was h = refl
either false was h = h

-- what is not new was there
pub there_before : (was : Bool) → not was ≡ false → was ≡ true
there_before true h = refl
there_before false h = cc

-- a set that has places by keys
module _ {K : Type 0} {R : K → K → Ordering} (total : IsTotalOrder R) (exact : CmpEqualImpliesEq R) (key : Place → K) (same_key : (p q : Place) → key p ≡ key q → p ≡ q) where
  -- the place is there, or was
  pub there_or_was : (p q : Place) (was is : Bool) → is ≡ cond (is_eq (R (key p) (key q))) true was → is ≡ true → (p ≡ q) ⊎ (was ≡ true)
  there_or_was p q was is e h = elim (is_eq (R (key p) (key q))) as (λ b. is_eq (R (key p) (key q)) ≡ b → is ≡ cond b true was → (p ≡ q) ⊎ (was ≡ true)) [
    | true ↦ λ t k. inl (same_key p q (exact (key p) (key q) ((Equal-is (R (key p) (key q))).0 t)))
    | false ↦ λ t k. inr (sym k ∙ h)
  ] refl e

  itself : (p q : Place) (was : Bool) → p ≡ q → cond (is_eq (R (key p) (key q))) true was ≡ true
  itself p q was e = subst (λ x. cond (is_eq (R (key p) (key x))) true was ≡ true) e (rw (tied_itself total (key p)) refl)

  pub same_more : (seen new : BTreeSet K) (order : List Place) (p : Place) → ((q : Place) → (IsTrue (contains R seen (key q))) ↔ Contains order q) → sorted.Updates R seen new (key p) true → (q : Place) → (IsTrue (contains R new (key q))) ↔ Contains (order ++ p ∷ []) q
  same_more seen new order p same updates q = (
    (λ h. ⊎_elim (λ e. subst (Contains (order ++ p ∷ [])) e (Contains-push order p)) (λ w. Contains-append_left order (p ∷ []) q ((same q).0 w)) (there_or_was p q (contains R seen (key q)) (contains R new (key q)) (updates.0 (key q)) h)),
    (λ h. updates.0 (key q) ∙ ⊎_elim (λ w. either (is_eq (R (key p) (key q))) (contains R seen (key q)) ((same q).1 w)) (λ e. itself p q (contains R seen (key q)) e) (Contains-push_cases order p q h)),
  )

apart : (p q : Place) → in_set p ≡ in_set q → p ≡ q
apart p q e = ap (λ r. r.0) e

pub crowd : (seen new : BTreeSet (Reverse Place)) (order : List Place) (p : Place) → IsFound seen order → sorted.Updates downwards seen new (in_set p) true → sorted.IsOrdered downwards new → 16384 < btree_set_len new → (p ≡ Exit → ⊥) → IsCrowded order p
crowd seen new order p found updates ordered many inside = record {
  places = places_in new;
  ordered = places_ascend new ordered;
  many = omega (arith, many, length_ascending new.keys);
  among = λ q h. ⊎_elim (λ e. inr e) (λ w. inl ((found.same q).0 w)) (there_or_was downwards_total downwards_exact in_set apart p q (contains downwards seen (in_set q)) (contains downwards new (in_set q)) (updates.0 (in_set q)) ((places_have new q).0 h));
  inside = inside;
}

pub found_more : (seen new : BTreeSet (Reverse Place)) (order : List Place) (p : Place) (is_new : Bool) → IsFound seen order → sorted.Updates downwards seen new (in_set p) true → btree_set_len new ≡ btree_set_len seen + cond is_new 1 0 → is_new ≡ true → btree_set_len new ≤ 16384 → (p ≡ Exit → ⊥) → IsFound new (order ++ p ∷ [])
found_more seen new order p is_new found updates len is_new_is few inside =
    let one : btree_set_len new ≡ btree_set_len seen + 1 = len ∙ ap (λ b. btree_set_len seen + cond b 1 0) is_new_is in
    let longer : length (order ++ p ∷ []) ≡ length order + 1 = length-append order (p ∷ []) in
    let was : length order ≡ btree_set_len seen = found.count in
    record {
      same = same_more downwards_total downwards_exact in_set apart seen new order p found.same updates;
      count = omega arith;
      few = omega arith;
      no_exit = λ h. ⊎_elim (λ w. found.no_exit w) (λ e. inside e) (Contains-push_cases order p Exit h);
    }
