-- The edges of a place lie from one number to another.
use Rattle.std.proofs.Common.{◌≡◌, ◌∙◌, ◌↔◌, ℕ, ◌+◌, ◌<◌, ◌≤◌, Bool, true, false, List, length, get_or, ⊎_elim, sym, ap, subst, arith}
use Rattle.std.proofs.lemmas.Bool.{both_ways, cases_lt}
use Rattle.std.proofs.lemmas.List.{get_or_default}
use Rattle.control_flow.specs.declared.edges.Edge.{Edge}
use Rattle.control_flow.specs.declared.places.Place.{Place}
use Rattle.control_flow.specs.Flow.{Flow, IsEdgeRange}
use Rattle.control_flow.proofs.Firsts.{no_edge, whole_range}
use Rattle.longest_walk.specs.Built.{step_at}
use Rattle.kept_runs.specs.declared.edges.Going.{Going}
use Rattle.kept_runs.specs.Edges.{HasNoEdge, IsFound, IsMet}

module _ (flow : Flow) (place : Place) (going : Going) (first end : ℕ) (range : IsEdgeRange flow place first end) where
  -- the edges of the place before this one are not met
  abbrev pub AreNotMet : ℕ → Type 0
  AreNotMet limit = (k : ℕ) → k < limit → (step_at flow.edges k).from ≡ place → IsMet going (step_at flow.edges k) → ⊥

  pub none_before : AreNotMet first
  none_before k less from =
      let fits = range.fits in
      let ordered = range.ordered in
      let own = whole_range flow place first end range k no_edge (omega (arith, less, fits, ordered)) from in
      absurd (omega (arith, less, own.0))

  -- what is tested of an edge
  module _ (k : ℕ) (low : first ≤ k) (high : k < end) (e : Edge) (r : Bool) (es : List Edge) (are : es ≡ flow.edges) (at : e ≡ get_or es k e) (is : r ≡ true ↔ IsMet going e) where
    known : k < length flow.edges
    known = let fits = range.fits in omega (arith, high, fits)

    same : e ≡ step_at flow.edges k
    same = at ∙ ap (λ (xs : List Edge). get_or xs k e) are ∙ get_or_default flow.edges k e no_edge known

    pub found_here : r ≡ true → IsFound flow place going k
    found_here answer = record { known = known; from = range.own k no_edge low high; met = subst (IsMet going) same (is.0 answer) }

    pub none_here : AreNotMet k → r ≡ false → AreNotMet (k + 1)
    none_here before answer j less from = ⊎_elim
        (λ (l : j < k). before j l from)
        (λ (m : k ≤ j).
        let here : k ≡ j = omega (arith, less, m) in
        subst (λ (n : ℕ). IsMet going (step_at flow.edges n) → ⊥) here
        (λ met. both_ways r answer (is.1 (subst (IsMet going) (sym same) met))))
        (cases_lt j k)

  pub found_nowhere : (k : ℕ) → end ≤ k → AreNotMet k → HasNoEdge flow place going
  found_nowhere k past before e (j, j_in, at) from met =
      let is : step_at flow.edges j ≡ e = get_or_default flow.edges j no_edge e j_in ∙ at in
      let from_is : (step_at flow.edges j).from ≡ place = ap (λ (x : Edge). x.from) is ∙ from in
      let own = whole_range flow place first end range j no_edge j_in from_is in
      before j (omega (arith, own.1, past)) from_is (subst (IsMet going) (sym is) met)
