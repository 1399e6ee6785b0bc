-- The addresses of the words that have a row.
use Rattle.std.proofs.Common.{◌≡◌, ◌∙◌, ℕ, ◌+◌, ◌<◌, ◌≤◌, Bool, true, false, ◌||◌, ◌⊎◌, List, length, get_or, take, Option, Some, None, inl, inr, ⊎_elim, refl, sym, ap, subst}
use Rattle.std.specs.Prelude.{◌↔◌, Contains, IsTrue}
use Rattle.std.specs.BTreeSet.{BTreeSet, contains}
use Rattle.std.specs.List.Sorted.{IsStrictlySortedBy}
use Rattle.std.specs.Ordering.{nat_cmp}
use Rattle.std.proofs.lemmas.Bool.{false≢true, or_cases, or_right}
use Rattle.std.proofs.lemmas.Cmp.{nat_cmp_total}
use Rattle.std.proofs.lemmas.List.{take_all}
use Rattle.std.proofs.lemmas.Map.Lookups.{exact_unsigned}
use Rattle.std.proofs.lemmas.Map.Views.{btree_set_contains_iff}
use Rattle.arm2_decode.specs.declared.instr.Instr.{Instr}
use Rattle.control_flow.specs.declared.places.Place.{Place}
use Rattle.control_flow.specs.Flow.{Flow}
use Rattle.image.specs.Image.{Words}
use Rattle.statement.specs.Stated.{Stated}
use Rattle.text_explained.specs.Taken.{is_reached}
use Rattle.word_shapes.specs.Words.{HasInstr}
use Rattle.known_places.specs.OnTrust.{OnTrust}
use Rattle.justify_reports.specs.Rows.{AreClassed, HasClass}
use Rattle.justify_reports.specs.Trust.{lists_class}

module _ (Holds : Instr → Type 0) (image : Words) (a : ℕ) where
  abbrev pub IsOne : Type 0
  IsOne = (i : Instr) × HasInstr image a i × Holds i

  pub instr_decides : (i : Instr) (b : Bool) → HasInstr image a i → ((j : Instr) → HasInstr image a j → Some i ≡ Some j) → IsTrue b ↔ Holds i → IsTrue b ↔ IsOne
  instr_decides i b has only decides = (
    λ e. (i, has, decides.0 e),
    λ h. let both : Some i ≡ Some h.0 = only h.0 h.1 in let one : h.0 ≡ i = cc in decides.1 (subst Holds one h.2),
  )

  pub none_decides : ((j : Instr) → HasInstr image a j → None ≡ Some j) → IsTrue false ↔ IsOne
  none_decides none = (
    λ e. absurd (false≢true e),
    λ h. absurd (let both : None ≡ Some h.0 = none h.0 h.1 in cc),
  )

-- the places of the whole graph
pub all_places : (Holds : ℕ → Type 0) (flow : Flow) (places : List Place) (k : ℕ) (has : ℕ → Bool) → places ≡ flow.places → length places ≤ k
    → ((a : ℕ) → (has a ≡ true) ↔ ((is_reached (take k places) a ≡ true) × Holds a)) → (a : ℕ) → (has a ≡ true) ↔ ((is_reached flow.places a ≡ true) × Holds a)
all_places Holds flow places k has are le known a =
    subst (λ (ps : List Place). (has a ≡ true) ↔ ((is_reached ps a ≡ true) × Holds a)) (take_all k places le ∙ are) (known a)

module _ (words : Words) (st : Stated) (flow : Flow) (left : Option OnTrust) (base set : BTreeSet ℕ) where
  pub are_classed : (items : List ℕ) → ((a : ℕ) → (contains nat_cmp base a ≡ true) ↔ ((is_reached flow.places a ≡ true) × HasClass words st a))
      → ((a : ℕ) → contains nat_cmp set a ≡ (contains nat_cmp base a || lists_class left a)) → items ≡ set.keys → IsStrictlySortedBy nat_cmp items
      → AreClassed words st flow left items
  are_classed items known put is ascending = record {
    ascending = ascending;
    each = λ a.
        let iff = btree_set_contains_iff nat_cmp_total exact_unsigned set a in (
          λ h.
              let in_set : contains nat_cmp set a ≡ true = iff.1 (subst (λ xs. Contains xs a) is h) in
              ⊎_elim (λ was. inl ((known a).0 was)) (λ among. inr among) (or_cases (contains nat_cmp base a) (lists_class left a) (sym (put a) ∙ in_set)),
          λ h.
              let in_set : contains nat_cmp set a ≡ true = put a ∙ ⊎_elim
              (λ here. ap (λ b. b || lists_class left a) ((known a).1 here))
              (λ among. or_right (contains nat_cmp base a) (lists_class left a) among)
              h in
              subst (λ xs. Contains xs a) (sym is) (iff.0 in_set),
        );
  }
