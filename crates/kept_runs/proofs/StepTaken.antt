-- One step of a run that is followed.
use Rattle.std.proofs.Common.{◌≡◌, ◌∙◌, ℕ, ◌+◌, ◌<◌, ◌≤◌, List, [], ◌∷◌, ◌++◌, length, get_or, Option, Some, None, refl, sym, ap, subst, arith}
use Rattle.std.specs.Prelude.{Contains}
use Rattle.std.proofs.Math.ListN.{length-set}
use Rattle.std.proofs.lemmas.List.{get_or_default}
use Rattle.std.proofs.lemmas.List.Elements.{Contains-get_or}
use Rattle.image.specs.Image.{Words}
use Rattle.statement.specs.Stated.{Stated}
use Rattle.arm2_exec.specs.State.{State}
use Rattle.arm2_exec.specs.declared.machine.Input.{Input}
use Rattle.arm2_exec.specs.declared.machine.Stepped.{Stepped}
use Rattle.control_flow.specs.Flow.{Flow, IsWellFormed}
use Rattle.control_flow.specs.Places.{place_at}
use Rattle.control_flow.specs.declared.edges.Edge.{Edge}
use Rattle.control_flow.specs.declared.edges.Label.TheVariants.{Do}
use Rattle.control_flow.specs.declared.places.Place.{Place}
use Rattle.numbered_walks.specs.declared.span.NumberedEdge.{NumberedEdge}
use Rattle.numbered_walks.specs.declared.span.Span.{Span}
use Rattle.numbered_walks.specs.Index.{edge_at}
use Rattle.numbered_walks.proofs.Members.{no_numbered_edge}
use Rattle.loop_bounds.specs.Tree.{IsTree, Tree, place_in}
use Rattle.longest_walk.specs.Built.{step_at}
use Rattle.longest_walk.proofs.CarryWalks.{edge_same, number_is}
use Rattle.kept_runs.specs.declared.following.Follower.{Follower}
use Rattle.kept_runs.specs.declared.judging.EdgeTaken.{EdgeTaken}
use Rattle.kept_runs.specs.declared.following.Unkept.TheVariants as unkept
use Rattle.kept_runs.specs.declared.following.Unkept.TheVariants.{TurnedBack}
use Rattle.kept_runs.specs.declared.judging.Stray.{Stray}
use Rattle.kept_runs.specs.Following.{AreHeadersOf, CanGo, CannotGo, Goes, IsNext, Keeps, Halts}
use Rattle.kept_runs.specs.Judging.{IsAtPlace, Strays, Takes, TakesNone}
use Rattle.kept_runs.specs.Passing.{counted}
use Rattle.walk_counts.specs.Counts.{is_same_label}
use Rattle.walk_counts.specs.Spans.{header_at}
use Rattle.kept_runs.specs.Stays.{IsOver, AreTurnsAfter, Turns, turned}
use Rattle.kept_runs.proofs.OneStep.{one_edge_of}
use Rattle.kept_runs.proofs.StayLemmas.{over, turns_on}

same_numbered : (a b : NumberedEdge) → a.from ≡ b.from → a.to ≡ b.to → a.cost ≡ b.cost → a ≡ b
same_numbered a b from to cost = λ i. record { from = from i; to = to i; cost = cost i }

turned_length : (o : Option Span) (e : NumberedEdge) (turns : List ℕ) → length (turned o e turns) ≡ length turns
turned_length None e turns = refl
turned_length (Some s) e turns = length-set turns e.to _

module _ (words : Words) (st : Stated) (flow : Flow) (tree : Tree) (well : IsWellFormed flow) (t : IsTree flow tree) (x : Follower) (s : State) (can : CanGo flow tree x s) where
  -- the index of the place where the run is
  abbrev pub index : ℕ
  index = get_or tree.order x.number 0

  pub index_in : get_or tree.order x.number 0 < length flow.places
  index_in = t.inside x.number can.known

  pub place_is : place_in flow tree x.number ≡ place_at flow.places (get_or tree.order x.number 0)
  place_is =
      let low : x.number < length flow.places = can.known in
      ap (λ (v : ℕ). place_at flow.places v) (get_or_default tree.order x.number (length flow.places) 0 (omega (arith, t.whole, low)))

  pub is_there : IsAtPlace flow (place_at flow.places (get_or tree.order x.number 0)) s
  is_there = record { machine = can.machine; at = (can.at.0, sym place_is ∙ can.at.1) }

  -- an edge of the graph, by its number
  pub in_tree : (k : ℕ) → k < length flow.edges → Contains tree.edges (edge_at tree.edges k)
  in_tree k lt = Contains-get_or tree.edges k no_numbered_edge (omega (arith, lt, t.numbered.same))

  -- an edge leaves where the run is, as places and as numbers
  pub leaves_number : (k : ℕ) → k < length flow.edges → (step_at flow.edges k).from ≡ place_in flow tree x.number → (edge_at tree.edges k).from ≡ x.number
  leaves_number k lt from =
      let n = edge_same flow tree well t k lt in
      let low : (edge_at tree.edges k).from < length flow.places = n.from_in in
      let here : x.number < length flow.places = can.known in
      number_is flow tree well t (edge_at tree.edges k).from x.number (omega (arith, low)) (omega (arith, here)) (n.from_is ∙ from)

  pub leaves_place : (k : ℕ) → k < length flow.edges → (edge_at tree.edges k).from ≡ x.number → (step_at flow.edges k).from ≡ place_in flow tree x.number
  leaves_place k lt from = sym (edge_same flow tree well t k lt).from_is ∙ ap (place_in flow tree) from

  module _ (i : Input) where
    -- no edge of the place
    none_goes : TakesNone words st flow (place_at flow.places (get_or tree.order x.number 0)) s i → CannotGo words st flow tree x s i
    none_goes none stepped after k next walk turns_are keeps =
        none stepped after (step_at flow.edges k) next.is_edge_of (leaves_place k next.known next.from ∙ place_is)

    pub strays : (after : State) (stray : Stray) → Strays words st flow (place_at flow.places (get_or tree.order x.number 0)) s i after stray → Halts words st flow tree x s i after (unkept.Stray stray)
    strays after stray h = record {
      cannot = none_goes h.none;
      is = subst (λ (p : Place). Strays words st flow p s i after stray) (sym place_is) h;
    }

    module _ (headers : List (Option Span)) (are : AreHeadersOf flow tree headers) (after : State) (taken : EdgeTaken) (takes : Takes words st flow (place_at flow.places (get_or tree.order x.number 0)) s i after taken) where
      abbrev e : NumberedEdge
      e = edge_at tree.edges taken.edge

      pub to_in : (edge_at tree.edges taken.edge).to ≤ length flow.places
      to_in = (edge_same flow tree well t taken.edge takes.known).to_in

      pub room : (edge_at tree.edges taken.edge).to < length x.turns.items
      room = let most = to_in in let long = can.room in omega (arith, most, long)

      from_is : (edge_at tree.edges taken.edge).from ≡ x.number
      from_is = leaves_number taken.edge takes.known (takes.from ∙ sym place_is)

      next : IsNext words st flow tree x s i taken.stepped after taken.edge
      next = record { known = takes.known; is_edge_of = takes.is_edge_of; from = from_is }

      turns_from : (walk : List NumberedEdge) → AreTurnsAfter tree.spans x.turns.items x.number walk → AreTurnsAfter tree.spans x.turns.items (edge_at tree.edges taken.edge).from walk
      turns_from walk turns_are = subst (λ (n : ℕ). AreTurnsAfter tree.spans x.turns.items n walk) (sym from_is) turns_are

      -- the step is the same for whoever makes it
      one : (stepped : Stepped) (last : State) (k : ℕ) → IsNext words st flow tree x s i stepped last k → edge_at tree.edges taken.edge ≡ edge_at tree.edges k
      one stepped last k other =
          let same : step_at flow.edges taken.edge ≡ step_at flow.edges k =
          one_edge_of words st flow.profile s i taken.stepped stepped after last (step_at flow.edges taken.edge) (step_at flow.edges k) takes.is_edge_of other.is_edge_of
          (takes.from ∙ sym (leaves_place k other.known other.from ∙ place_is)) in
          let a = edge_same flow tree well t taken.edge takes.known in
          let b = edge_same flow tree well t k other.known in
          same_numbered (edge_at tree.edges taken.edge) (edge_at tree.edges k)
          (from_is ∙ sym other.from)
          (number_is flow tree well t (edge_at tree.edges taken.edge).to (edge_at tree.edges k).to a.to_in b.to_in (a.to_is ∙ ap (λ (d : Edge). d.to) same ∙ sym b.to_is))
          (a.cost_is ∙ ap (λ (d : Edge). d.cost) same ∙ sym b.cost_is)

      -- one back edge too many
      over_goes : (span : Span) → IsOver headers (edge_at tree.edges taken.edge) x.turns.items span → CannotGo words st flow tree x s i
      over_goes span is_over stepped last k other walk turns_are keeps =
          over (length flow.places) tree.edges tree.spans t.ordered headers are.are (edge_at tree.edges taken.edge) (in_tree taken.edge takes.known) walk x.turns.items x.turns.items room (turns_from walk turns_are) span is_over
          (subst (λ (d : NumberedEdge). Keeps tree (walk ++ d ∷ [])) (sym (one stepped last k other)) keeps)

      pub turns_back : (span : Span) → IsOver headers (edge_at tree.edges taken.edge) x.turns.items span → Halts words st flow tree x s i after (TurnedBack span)
      turns_back span is_over =
          let known = are.are.known (edge_at tree.edges taken.edge).to span is_over.header in
          record { cannot = over_goes span is_over; is = (taken.stepped, taken.edge, next, known.0, sym known.1) }

      pub goes : (new : Follower) → Turns headers (edge_at tree.edges taken.edge) x.turns.items new.turns.items → new.number ≡ (edge_at tree.edges taken.edge).to → new.steps ≡ x.steps + 1 → new.ticks ≡ x.ticks + taken.stepped.ticks
          → new.by_place.items ≡ counted x.by_place.items (get_or tree.order x.number 0) (is_same_label (step_at flow.edges taken.edge).label Do) taken.stepped.ticks → Goes words st flow tree x new s i after
      goes new turns number steps ticks tally = record {
        edge = taken.edge;
        stepped = taken.stepped;
        next = next;
        number_is = number;
        steps_are = steps;
        ticks_are = ticks;
        tally_is = tally;
        small = takes.small;
        machine = takes.machine;
        room = ap length turns.turns_are ∙ turned_length (header_at headers (edge_at tree.edges taken.edge).to) (edge_at tree.edges taken.edge) x.turns.items ∙ can.room;
        adds = λ walk turns_are.
            subst (λ (n : ℕ). AreTurnsAfter tree.spans new.turns.items n (walk ++ edge_at tree.edges taken.edge ∷ [])) (sym number)
            (turns_on (length flow.places) tree.edges tree.spans t.ordered headers are.are (edge_at tree.edges taken.edge) (in_tree taken.edge takes.known) walk x.turns.items new.turns.items room (turns_from walk turns_are) turns);
      }
