-- How many elements of a list have each key, and where edges lead.
use Rattle.std.proofs.Common.{◌≡◌, ◌∙◌, ℕ, ◌+◌, ◌<◌, ◌≤◌, eqb, List, length, take, get_or, ⊎_elim, sym, ap, subst, arith, get_or-set_other, get_or-set_same}
use Rattle.std.specs.Prelude.{Contains, count_by}
use Rattle.std.proofs.Math.ListN.{set}
use Rattle.std.proofs.lemmas.List.{get_or_default, length-take-le}
use Rattle.std.proofs.lemmas.Bool.{cases_lt, eq-eqb, ne_eqb}
use Rattle.std.proofs.lemmas.List.Sums.{count_by-le-length, count_by_more_yes, count_by_more_no}
use Rattle.control_flow.specs.Flow.{Flow}
use Rattle.loop_bounds.specs.Tree.{IsTree, Tree}
use Rattle.numbered_walks.specs.Index.{edge_at}
use Rattle.numbered_walks.specs.declared.span.NumberedEdge.{NumberedEdge}

module _ {X : Type 0} (key : X → ℕ) (xs : List X) (i : ℕ) (d : X) (lt : i < length xs) where
  abbrev pub with_key : ℕ → ℕ → ℕ
  with_key k n = count_by (λ e. eqb (key e) n) (take k xs)

  one_more : (n : ℕ) → key (get_or xs i d) ≡ n → with_key (i + 1) n ≡ with_key i n + 1
  one_more n is = count_by_more_yes (λ e. eqb (key e) n) xs i d lt (eq-eqb (key (get_or xs i d)) n is)

  none_more : (n : ℕ) → (key (get_or xs i d) ≡ n → ⊥) → with_key (i + 1) n ≡ with_key i n
  none_more n differs = count_by_more_no (λ e. eqb (key e) n) xs i d lt (ne_eqb (key (get_or xs i d)) n differs)

  -- one element more
  pub tally_more : (size at new : ℕ) (old : List ℕ) → length old ≡ size → at < size → key (get_or xs i d) ≡ at → new ≡ get_or old at 0 + 1
      → ((n : ℕ) → n < size → get_or old n 0 ≡ with_key i n) → (n : ℕ) → n < size → get_or (set old at new) n 0 ≡ with_key (i + 1) n
  tally_more size at new old whole inside at_is new_is h n few = ⊎_elim
      (λ (less : n < at). other (λ same. absurd (omega arith)))
      (λ (le : at ≤ n). ⊎_elim (λ (more : at < n). other (λ same. absurd (omega arith))) (λ (ge : n ≤ at). here (omega arith)) (cases_lt at n))
      (cases_lt n at)
    where
      other : (at ≡ n → ⊥) → get_or (set old at new) n 0 ≡ with_key (i + 1) n
      other differs = get_or-set_other old at n new 0 (λ is. differs (sym is)) ∙ h n few ∙ sym (none_more n (λ is. differs (sym at_is ∙ is)))

      here : at ≡ n → get_or (set old at new) n 0 ≡ with_key (i + 1) n
      here is =
          let put : get_or (set old at new) at 0 ≡ new = get_or-set_same old at new 0 (omega arith) in
          ap (λ m. get_or (set old at new) m 0) (sym is) ∙ put ∙ new_is ∙ ap (λ m. m + 1) (ap (λ m. get_or old m 0) is ∙ h n few) ∙ sym (one_more n (at_is ∙ is))

  -- no count is as great as the list is long
  pub tally_small : (n count : ℕ) → count ≡ with_key i n → count < length xs
  tally_small n count is =
      let le : i ≤ length xs = omega (arith, lt) in
      omega (arith, lt, is, count_by-le-length (λ e. eqb (key e) n) (take i xs), length-take-le i xs le)

-- ## Edges

pub leads_inside : (flow : Flow) (tree : Tree) → IsTree flow tree → (edges : List NumberedEdge) (i : ℕ) → edges ≡ tree.edges → i < length edges → (edge_at edges i).to ≤ length flow.places
leads_inside flow tree t edges i same lt =
    (t.ordered.places (edge_at edges i) (subst (λ (es : List NumberedEdge). Contains es (edge_at edges i)) same
    (i, lt, get_or_default edges i (edge_at edges i) (record { from = 0; to = 0; cost = 0 }) lt))).1
