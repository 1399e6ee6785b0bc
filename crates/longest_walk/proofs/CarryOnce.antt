-- Edges that begin at rising numbers leave no place twice.
use Rattle.std.proofs.Common.{◌≡◌, ◌≢◌, ◌∙◌, ℕ, ◌+◌, ◌<◌, List, [], ◌∷◌, length, All, sym, subst, arith}
use Rattle.std.proofs.lemmas.List.Elements.{All-nil, All-cons}
use Rattle.std.proofs.lemmas.List.Kept.{AllPairs-cons}
use Rattle.control_flow.specs.declared.places.Place.{Place}
use Rattle.control_flow.specs.declared.edges.Edge.{Edge}
use Rattle.control_flow.specs.Flow.{Flow, IsWellFormed}
use Rattle.numbered_walks.specs.Index.{edge_at}
use Rattle.loop_bounds.specs.Tree.{IsTree, Tree, place_in}
use Rattle.longest_walk.specs.Built.{AreRising, Rise, step_at, steps_of}
use Rattle.longest_walk.specs.Longest.{LeaveOnce}
use Rattle.longest_walk.proofs.CarryWalks.{edge_same, number_is}

module _ (flow : Flow) (tree : Tree) (well : IsWellFormed flow) (t : IsTree flow tree) where
  abbrev place : ℕ → Place
  place = place_in flow tree

  abbrev Apart : Edge → Edge → Type 0
  Apart d e = d.from ≢ e.from

  places_apart : (j k : ℕ) → j < length flow.edges → k < length flow.edges → (edge_at tree.edges j).from < (edge_at tree.edges k).from → Apart (step_at flow.edges j) (step_at flow.edges k)
  places_apart j k j_in k_in low same =
      let one = edge_same flow tree well t j j_in in
      let two = edge_same flow tree well t k k_in in
      let is : (edge_at tree.edges j).from ≡ (edge_at tree.edges k).from =
      number_is flow tree well t (edge_at tree.edges j).from (edge_at tree.edges k).from (omega (arith, one.from_in)) (omega (arith, two.from_in)) (one.from_is ∙ same ∙ sym two.from_is) in
      omega arith

  all_apart : (j least : ℕ) (ks : List ℕ) → j < length flow.edges → (edge_at tree.edges j).from < least → Rise flow tree least ks → All (Apart (step_at flow.edges j)) (steps_of flow.edges ks)
  all_apart j least [] j_in low r = All-nil (Apart (step_at flow.edges j))
  all_apart j least (k ∷ ks) j_in low r =
      All-cons (Apart (step_at flow.edges j)) (step_at flow.edges k) (steps_of flow.edges ks) (places_apart j k j_in r.0 (omega (arith, r.1)))
      (all_apart j ((edge_at tree.edges k).from + 1) ks j_in (omega (arith, r.1)) r.2)

  rise_once : (least : ℕ) (ks : List ℕ) → Rise flow tree least ks → LeaveOnce (steps_of flow.edges ks)
  rise_once least [] r = λ i j d low lt. absurd (omega arith)
  rise_once least (k ∷ ks) r =
      AllPairs-cons Apart (step_at flow.edges k) (steps_of flow.edges ks) (all_apart k ((edge_at tree.edges k).from + 1) ks r.0 (omega arith) r.2)
      (rise_once ((edge_at tree.edges k).from + 1) ks r.2)

  pub rising_once : (edges : List Edge) → AreRising flow tree edges → LeaveOnce edges
  rising_once edges a = subst LeaveOnce (sym a.edges_are) (rise_once a.least a.numbers a.rise)
