-- Which addresses are noted.
use Rattle.std.proofs.Common.{◌≡◌, ◌∙◌, ℕ, ◌+◌, ◌<◌, ◌≤◌, Bool, true, ◌⊎◌, List, length, get_or, Contains, Result, Ok, Err, ⊎_elim, inl, inr, sym, ap, subst, arith}
use Rattle.std.specs.Prelude.{◌↔◌}
use Rattle.std.specs.BTreeSet.{BTreeSet, contains}
use Rattle.std.specs.List.Sorted.{IsStrictlySortedBy}
use Rattle.std.specs.Ordering.{nat_cmp}
use Rattle.std.specs.Result.{IfOk}
use Rattle.std.proofs.lemmas.Bool.{cases_lt}
use Rattle.std.proofs.lemmas.Cmp.{nat_cmp_total}
use Rattle.std.proofs.lemmas.List.{get_or_default}
use Rattle.std.proofs.lemmas.List.Folds.{Any-from_list_any, list_any_at}
use Rattle.std.proofs.lemmas.Map.Lookups.{exact_unsigned}
use Rattle.std.proofs.lemmas.Map.Views.{btree_set_contains_iff}
use Rattle.control_flow.specs.declared.edges.Edge.{Edge}
use Rattle.control_flow.specs.Flow.{Flow}
use Rattle.image.specs.Image.{Words}
use Rattle.text_explained.specs.Taken.{is_at}
use Rattle.text_masked.specs.declared.shown.Mask.{Mask}
use Rattle.text_masked.specs.Sections.{AreSetters, IsSetAt}
use Rattle.text_masked.specs.Shown.{SetsMask}
use Rattle.text_masked.specs.Steps.{AreLeftAtCost, costs_at}

pub both_ok : {T E : Type 0} (r : Result T E) (P Q R : T → Type 0) → ((x : T) → P x → Q x → R x) → IfOk r P → IfOk r Q → IfOk r R
both_ok (Ok x) P Q R f p q = f x p q
both_ok (Err e) P Q R f p q = tt

-- ## Edges of which something holds at an address

module _ (At : ℕ → Edge → Type 0) where
  -- of one of the first edges it holds exactly where `answers` says so
  abbrev pub AreNoted : List Edge → (ℕ → Bool) → ℕ → Type 0
  AreNoted edges answers k =
      (a : ℕ) → (answers a ≡ true) ↔ ((n : ℕ) × (e : Edge) × (n < k) × (n < length edges) × (get_or edges n e ≡ e) × At a e)

  pub none_noted : (edges : List Edge) (answers : ℕ → Bool) → ((a : ℕ) → answers a ≡ true → ⊥) → AreNoted edges answers 0
  none_noted edges answers none a = (λ h. absurd (none a h), λ h. absurd (omega (arith, h.2)))

  pub more_noted : (edges : List Edge) (old new : ℕ → Bool) (k : ℕ) (d : Edge) → k < length edges → AreNoted edges old k
      → ((a : ℕ) → (new a ≡ true) ↔ ((old a ≡ true) ⊎ At a (get_or edges k d))) → AreNoted edges new (k + 1)
  more_noted edges old new k d lt before more a = (
    λ h. ⊎_elim
        (λ was. let w = (before a).0 was in (w.0, w.1, omega (arith, w.2), w.3, w.4, w.5))
        (λ here. (k, get_or edges k d, omega arith, lt, get_or_default edges k (get_or edges k d) d lt, here))
        ((more a).0 h),
    λ h. (more a).1 (⊎_elim
        (λ (low : h.0 < k). inl ((before a).1 (h.0, h.1, low, h.3, h.4, h.5)))
        (λ high.
        let same : h.0 ≡ k = omega (arith, h.2) in
        let is : h.1 ≡ get_or edges k d = sym h.4 ∙ ap (λ (n : ℕ). get_or edges n h.1) same ∙ get_or_default edges k h.1 d lt in
        inr (subst (λ (e : Edge). At a e) is h.5))
        (cases_lt h.0 k)),
  )

  pub all_noted : (edges : List Edge) (k : ℕ) (noted : BTreeSet ℕ) (named : List ℕ) → length edges ≤ k → AreNoted edges (contains nat_cmp noted) k → named ≡ noted.keys
      → (a : ℕ) → Contains named a ↔ ((e : Edge) × Contains edges e × At a e)
  all_noted edges k noted named all known is a =
      let iff = btree_set_contains_iff nat_cmp_total exact_unsigned noted a in (
        λ has.
            let w = (known a).0 (iff.1 (subst (λ (xs : List ℕ). Contains xs a) is has)) in
            (w.1, (w.0, w.3, w.4), w.5),
        λ at. subst (λ (xs : List ℕ). Contains xs a) (sym is) (iff.0 ((known a).1 (at.1.0, at.0, omega (arith, at.1.1, all), at.1.1, at.1.2, at.2))),
      )

-- ## The longest steps

pub are_left : (edges : List Edge) (ticks k : ℕ) (noted : BTreeSet ℕ) (named : List ℕ) → length edges ≤ k → AreNoted (λ a e. costs_at ticks a e ≡ true) edges (contains nat_cmp noted) k
    → named ≡ noted.keys → IsStrictlySortedBy nat_cmp named → AreLeftAtCost edges ticks named
are_left edges ticks k noted named all known is ascending = record {
  ascending = ascending;
  each = λ a.
      let iff = all_noted (λ b e. costs_at ticks b e ≡ true) edges k noted named all known is a in (
        λ has. let w = iff.0 has in list_any_at (costs_at ticks a) edges w.1.0 w.0 w.1.1 (ap (costs_at ticks a) w.1.2 ∙ w.2),
        λ any. let w = Any-from_list_any (costs_at ticks a) edges any in iff.1 (w.1, (w.0, w.2, w.3), w.4),
      );
}

-- ## The words that set a mask

pub are_setters : (words : Words) (mask : Mask) (flow : Flow) (edges : List Edge) (k : ℕ) (noted : BTreeSet ℕ) (named : List ℕ) → edges ≡ flow.edges → length edges ≤ k
    → AreNoted (λ a e. (is_at a e.from ≡ true) × SetsMask words mask e) edges (contains nat_cmp noted) k → named ≡ noted.keys → IsStrictlySortedBy nat_cmp named → AreSetters words flow mask named
are_setters words mask flow edges k noted named are all known is ascending = record {
  ascending = ascending;
  each = λ a.
      let iff = all_noted (λ b e. (is_at b e.from ≡ true) × SetsMask words mask e) edges k noted named all known is a in (
        λ has. let w = iff.0 has in record { edge = w.0; is_edge = subst (λ (es : List Edge). Contains es w.0) are w.1; leaves = w.2.0; sets = w.2.1 },
        λ (at : IsSetAt words flow mask a). iff.1 (at.edge, subst (λ (es : List Edge). Contains es at.edge) (sym are) at.is_edge, (at.leaves, at.sets)),
      );
}
