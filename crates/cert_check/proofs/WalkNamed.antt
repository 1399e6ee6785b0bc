-- The edge that a line names: it is among the edges of its place.
use Rattle.std.proofs.Common.{◌≡◌, ◌∙◌, ℕ, zero, suc, ◌<◌, ◌≤◌, Bool, true, false, cond, ◌&&◌, List, [], ◌∷◌, length, get_or, Some, None, ⊎_elim, refl, sym, ap, arith}
use Rattle.std.specs.List.{find}
use Rattle.std.proofs.lemmas.Bool.{cases_Bool, cases_lt, false≢true}
use Rattle.std.proofs.lemmas.List.{get_or_default}
use Rattle.control_flow.specs.declared.places.Place.{Place}
use Rattle.control_flow.specs.declared.places.Place.TheVariants.{At, Exit}
use Rattle.control_flow.specs.declared.edges.Edge.{Edge}
use Rattle.control_flow.specs.Flow.{Flow, IsEdgeRange, IsWellFormed}
use Rattle.control_flow.proofs.Firsts.{no_edge, whole_range}
use Rattle.loop_bounds.specs.Tree.{IsTree, Tree, place_in}
use Rattle.longest_walk.specs.Built.{step_at}
use Rattle.longest_walk.specs.Rows.{is_at}
use Rattle.longest_walk.proofs.CarryFind.{at_place}
use Rattle.longest_walk.proofs.CarryWalks.{exit_place}
use Rattle.certificate.specs.declared.walk.StepLine.{StepLine}
use Rattle.cert_check.specs.Followed.{edge_named, is_named}

-- ## Finding

pub find_first : {X : Type 0} (test : X → Bool) (xs : List X) (k : ℕ) (d : X) → k < length xs → ((j : ℕ) → j < k → test (get_or xs j d) ≡ false) → test (get_or xs k d) ≡ true → find test xs ≡ Some (get_or xs k d)
find_first test [] k d lt before pass = absurd (omega arith)
find_first test (x ∷ xs) zero d lt before pass = ap (λ (b : Bool). cond b (Some x) (find test xs)) pass
find_first test (x ∷ xs) (suc k) d lt before pass =
    ap (λ (b : Bool). cond b (Some x) (find test xs)) (before 0 (omega arith)) ∙ find_first test xs k d (omega arith) (λ j less. before (suc j) (omega arith)) pass

pub find_nothing : {X : Type 0} (test : X → Bool) (xs : List X) (d : X) → ((j : ℕ) → j < length xs → test (get_or xs j d) ≡ false) → find test xs ≡ None
find_nothing test [] d none = refl
find_nothing test (x ∷ xs) d none =
    ap (λ (b : Bool). cond b (Some x) (find test xs)) (none 0 (omega arith)) ∙ find_nothing test xs d (λ j less. none (suc j) (omega arith))

-- ## Edges of a place

first_holds : (a b c d e : Bool) → (a && b && c && d && e) ≡ true → a ≡ true
first_holds true b c d e is = refl
first_holds false b c d e is = is

-- a line names an edge where the walk is
pub named_from : (p : Place) (line : StepLine) (e : Edge) → is_named p line e ≡ true → e.from ≡ p
named_from (At calls a) line e is = sym (at_place calls a e.from (first_holds (is_at calls a e.from) _ _ _ _ is))
named_from Exit line e is = absurd (false≢true is)

module _ (flow : Flow) (well : IsWellFormed flow) where
  module _ (tree : Tree) (t : IsTree flow tree) where
    pub none_at_exit : (n : ℕ) (line : StepLine) → n ≡ length flow.places → None ≡ edge_named flow (place_in flow tree n) line
    none_at_exit n line is =
        let at : place_in flow tree n ≡ Exit = ap (place_in flow tree) is ∙ exit_place flow tree well t in
        sym (ap (λ (p : Place). edge_named flow p line) at ∙ find_nothing (is_named Exit line) flow.edges no_edge (λ j less. refl))

module _ (flow : Flow) (p : Place) (line : StepLine) (first end : ℕ) (range : IsEdgeRange flow p first end) where
  fails_outside : (k : ℕ) → k < length flow.edges → (first ≤ k → k < end → ⊥) → is_named p line (step_at flow.edges k) ≡ false
  fails_outside k k_in outside = ⊎_elim
      (λ is. let own = whole_range flow p first end range k no_edge k_in (named_from p line (step_at flow.edges k) is) in absurd (outside own.0 own.1))
      (λ fails. fails)
      (cases_Bool (is_named p line (step_at flow.edges k)))

  pub fail_before : (k : ℕ) → k < first → is_named p line (step_at flow.edges k) ≡ false
  fail_before k less = fails_outside k (omega (arith, range.ordered, range.fits)) (λ low high. omega arith)

  -- what is tested at the edge's own place
  module _ (k : ℕ) (low : first ≤ k) (high : k < end) (e : Edge) (r : Bool) (es : List Edge) (are : es ≡ flow.edges) (at : e ≡ get_or es k e) (is : r ≡ is_named e.from line e) where
    pub tested_here : (b : Bool) → r ≡ b → is_named p line (step_at flow.edges k) ≡ b
    tested_here b answer =
        let same : e ≡ step_at flow.edges k = at ∙ ap (λ (xs : List Edge). get_or xs k e) are ∙ get_or_default flow.edges k e no_edge (omega (arith, high, range.fits)) in
        ap (λ (q : Place). is_named q line (step_at flow.edges k)) (sym (range.own k no_edge low high)) ∙ sym (ap (λ (x : Edge). is_named x.from line x) same) ∙ sym is ∙ answer

    pub found_here : ((j : ℕ) → j < k → is_named p line (step_at flow.edges j) ≡ false) → r ≡ true → Some (step_at flow.edges k) ≡ edge_named flow p line
    found_here before answer = sym (find_first (is_named p line) flow.edges k no_edge (omega (arith, high, range.fits)) before (tested_here true answer))

  pub found_nowhere : (k : ℕ) → end ≤ k → ((j : ℕ) → j < k → is_named p line (step_at flow.edges j) ≡ false) → None ≡ edge_named flow p line
  found_nowhere k past before = sym (find_nothing (is_named p line) flow.edges no_edge (λ j j_in. ⊎_elim
      (λ (less : j < k). before j less)
      (λ (more : k ≤ j). fails_outside j j_in (λ low high. omega arith))
      (cases_lt j k)))
