-- The greatest cost of an edge from an address, one edge after another.
use Rattle.std.proofs.Common.{◌≡◌, ◌∙◌, ℕ, ◌<◌, max, true, false, List, [], ◌∷◌, ◌++◌, Contains, Option, Some}
use Rattle.std.proofs.Common.{None, ⊎_elim, refl, sym, ap, subst, arith}
use Rattle.std.proofs.lemmas.Bool.{both_ways, cases_lt}
use Rattle.std.proofs.lemmas.List.Elements.{Contains-append_left, Contains-push, Contains-push_cases}
use Rattle.control_flow.specs.declared.edges.Edge.{Edge}
use Rattle.control_flow.specs.Flow.{Flow}
use Rattle.responses.specs.Arriving.{greater}
use Rattle.responses.specs.Response.{HasStepAt, IsWorstStepAt, is_at}

-- the graph with these edges alone
abbrev pub with_edges : Flow → List Edge → Flow
with_edges flow edges = record flow { edges = edges }

module _ (flow : Flow) (address : ℕ) (edges : List Edge) (e : Edge) where
  abbrev more : Flow
  more = with_edges flow (edges ++ e ∷ [])

  kept : (own : ℕ) → HasStepAt (with_edges flow edges) address own
      → HasStepAt (with_edges flow (edges ++ e ∷ [])) address own
  kept own h = record {
    edge = h.edge;
    is_edge = Contains-append_left edges (e ∷ []) h.edge h.is_edge;
    from = h.from;
    costs = h.costs;
  }

  pub other_step : (worst : Option ℕ) → is_at address e.from ≡ false
      → IsWorstStepAt (with_edges flow edges) address worst
      → IsWorstStepAt (with_edges flow (edges ++ e ∷ [])) address worst
  other_step None off is = λ x has here. ⊎_elim
      (λ (before : Contains edges x). is x before here)
      (λ (same : e ≡ x). both_ways (is_at address x.from) (ap (λ (y : Edge). is_at address y.from) (sym same)
      ∙ off) here)
      (Contains-push_cases edges e x has)
  other_step (Some own) off is = (
    kept own is.0,
    λ x has here. ⊎_elim
        (λ (before : Contains edges x). is.1 x before here)
        (λ (same : e ≡ x). absurd
        (both_ways (is_at address x.from) (ap (λ (y : Edge). is_at address y.from) (sym same) ∙ off) here))
        (Contains-push_cases edges e x has),
  )

  own_step : is_at address e.from ≡ true → HasStepAt (with_edges flow (edges ++ e ∷ [])) address e.cost
  own_step here = record { edge = e; is_edge = Contains-push edges e; from = here; costs = refl }

  of_both : (own : ℕ) → is_at address e.from ≡ true → HasStepAt (with_edges flow edges) address own
      → HasStepAt (with_edges flow (edges ++ e ∷ [])) address (max own e.cost)
  of_both own here h = ⊎_elim
      (λ (less : own < e.cost). let top : e.cost ≡ max own e.cost = omega arith in
      subst (λ (n : ℕ). HasStepAt more address n) top (own_step here))
      (λ most. let top : own ≡ max own e.cost = omega arith in subst (λ (n : ℕ). HasStepAt more address n) top
      (kept own h))
      (cases_lt own e.cost)

  pub step_there : (worst : Option ℕ) → is_at address e.from ≡ true
      → IsWorstStepAt (with_edges flow edges) address worst
      → IsWorstStepAt (with_edges flow (edges ++ e ∷ [])) address (greater worst e.cost)
  step_there None here is = (
    own_step here,
    λ x has at_x. ⊎_elim
        (λ (before : Contains edges x). absurd (is x before at_x))
        (λ (same : e ≡ x). omega (arith, ap (λ (y : Edge). y.cost) same))
        (Contains-push_cases edges e x has),
  )
  step_there (Some own) here is = (
    of_both own here is.0,
    λ x has at_x. ⊎_elim
        (λ (before : Contains edges x). omega (arith, is.1 x before at_x))
        (λ (same : e ≡ x). omega (arith, ap (λ (y : Edge). y.cost) same))
        (Contains-push_cases edges e x has),
  )
