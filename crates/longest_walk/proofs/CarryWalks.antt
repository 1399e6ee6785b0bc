-- Walks by the numbers of their edges: the same between places and between the places' numbers.
use Rattle.std.proofs.Common.{◌≡◌, ℕ, ◌+◌, ◌<◌, ◌≤◌, ◌^◌, eqb, ◌&&◌, List, [], ◌∷◌, length, get_or, slice_index, All, Contains, ⊎_elim, refl, sym, ap, ◌∙◌, subst, arith}
use Rattle.std.proofs.lemmas.Bool.{cases_lt}
use Rattle.std.proofs.lemmas.List.{get_or_default, get_or_past}
use Rattle.std.proofs.lemmas.List.Elements.{All-head, All-tail, Contains-get_or}
use Rattle.std.proofs.lemmas.List.Sums.{sum_by-cons}
use Rattle.walks.specs.Walk.{Leads, cost_of}
use Rattle.walks.specs.Greatest as G
use Rattle.control_flow.specs.declared.places.Place.{Place}
use Rattle.control_flow.specs.declared.places.Place.TheVariants.{Exit}
use Rattle.control_flow.specs.declared.edges.Edge.{Edge}
use Rattle.control_flow.specs.Flow.{Flow, IsWellFormed, edge_shape, HasEdge}
use Rattle.control_flow.specs.Places.{place_at}
use Rattle.control_flow.proofs.Firsts.{no_edge}
use Rattle.numbered_walks.specs.declared.span.NumberedEdge.{NumberedEdge}
use Rattle.numbered_walks.specs.declared.span.Span.{Span}
use Rattle.numbered_walks.specs.declared.fault.WalkFault.{WalkFault}
use Rattle.numbered_walks.specs.declared.fault.WalkFault.TheVariants.{Memory, NoCompleteWalk, BoundTooLarge}
use Rattle.numbered_walks.specs.Index.{edge_at, edges_of}
use Rattle.numbered_walks.specs.Ordered.{number_shape, is_in}
use Rattle.numbered_walks.specs.Ordered as O
use Rattle.numbered_walks.specs.Found as F
use Rattle.numbered_walks.proofs.Members.{no_numbered_edge, no_span}
use Rattle.loop_bounds.specs.Bounds.{IsCompleteWalk}
use Rattle.loop_bounds.specs.Instance.{Instance, is_member, is_header, place_loops}
use Rattle.loop_bounds.specs.Tree.{ArePlaceNumbers, IsSpanOf, IsTree, NumbersEdge, Tree, place_in}
use Rattle.loop_bounds.proofs.Numbers.{number_once}
use Rattle.loop_bounds.proofs.Positions.{places_once}
use Rattle.longest_walk.specs.Built.{step_at, steps_of}
use Rattle.longest_walk.specs.Longest.{IsWalkFault, KeepsTree, TreeTooLarge}
use Rattle.longest_walk.proofs.CarryKeeps.{Agree, IsNamed, keeps_back, keeps_there, named}

abbrev pub no_instance : Instance
no_instance = record { list = []; header = 0; first = 0; last = 0; bound = 0; apart = [] }

-- these are numbers of edges
abbrev pub AreNumbersOf : Flow → List ℕ → Type 0
AreNumbersOf flow ks = All (λ k. k < length flow.edges) ks

module _ (flow : Flow) (tree : Tree) (well : IsWellFormed flow) (t : IsTree flow tree) where
  abbrev exit : ℕ
  exit = length flow.places

  abbrev place : ℕ → Place
  place = place_in flow tree

  -- ## Places

  order_at : (n : ℕ) → n ≤ exit → get_or tree.order n exit ≡ slice_index tree.order n
  order_at n le = get_or_default tree.order n exit 0 (omega (arith, t.whole))

  order_in : (n : ℕ) → n < exit → get_or tree.order n exit < exit
  order_in n lt = omega (arith, t.inside n lt, order_at n (omega arith))

  pub exit_place : place_in flow tree (length flow.places) ≡ Exit
  exit_place = get_or_past flow.places (get_or tree.order exit exit) Exit (omega (arith, order_at exit (omega arith), t.exit_last))

  place_once : (m n : ℕ) → m < exit → n < exit → place m ≡ place n → m ≡ n
  place_once m n mlt nlt same =
      let at : get_or tree.order m exit ≡ get_or tree.order n exit = places_once flow.places well.ordered (get_or tree.order m exit) (get_or tree.order n exit) Exit (order_in m mlt) (order_in n nlt) same in
      let one : slice_index tree.order m ≡ slice_index tree.order n = sym (order_at m (omega arith)) ∙ at ∙ order_at n (omega arith) in
      let not_below : m < n → ⊥ = λ less. t.distinct m n less (omega (arith, t.whole)) one in
      let not_above : n < m → ⊥ = λ less. t.distinct n m less (omega (arith, t.whole)) (sym one) in
      omega arith

  pub place_numbers : ArePlaceNumbers flow (place_in flow tree)
  place_numbers = record {
    exit = exit_place;
    place = λ n lt. Contains-get_or flow.places (get_or tree.order n exit) Exit (order_in n lt);
    number = λ p has.
        let n = t.all has.0 has.1 in
        let at : get_or tree.order n.0 exit ≡ has.0 = order_at n.0 (omega (arith, n.1)) ∙ n.2 in
        (n.0, n.1, ap (λ (v : ℕ). place_at flow.places v) at ∙ get_or_default flow.places has.0 Exit p has.1 ∙ has.2);
    once = place_once;
  }

  -- a number up to that of Exit is that of one place
  pub number_is : (m n : ℕ) → m ≤ length flow.places → n ≤ length flow.places → place_in flow tree m ≡ place_in flow tree n → m ≡ n
  number_is m n mle nle same = ⊎_elim
      (λ (l : m < exit). number_once flow place place_numbers well tree.edges t.numbered m n l nle same)
      (λ (high : exit ≤ m). ⊎_elim
      (λ (l : n < exit). sym (number_once flow place place_numbers well tree.edges t.numbered n m l mle (sym same)))
      (λ (top : exit ≤ n). let is : m ≡ n = omega arith in is)
      (cases_lt n exit))
      (cases_lt m exit)

  -- ## Edges

  pub edge_same : (k : ℕ) → k < length flow.edges → NumbersEdge (place_in flow tree) (length flow.places) (step_at flow.edges k) (edge_at tree.edges k)
  edge_same k lt = t.numbered.each k no_edge no_numbered_edge lt

  pub costs_same : (ks : List ℕ) → AreNumbersOf flow ks → cost_of edge_shape (steps_of flow.edges ks) ≡ cost_of number_shape (edges_of tree.edges ks)
  costs_same [] inside = refl
  costs_same (k ∷ ks) inside =
      let here = edge_same k (All-head (λ (n : ℕ). n < length flow.edges) k ks inside) in
      let rest : cost_of edge_shape (steps_of flow.edges ks) ≡ cost_of number_shape (edges_of tree.edges ks) = costs_same ks (All-tail (λ (n : ℕ). n < length flow.edges) k ks inside) in
      let cost_is : (edge_at tree.edges k).cost ≡ (step_at flow.edges k).cost = here.cost_is in
      let one : cost_of edge_shape (steps_of flow.edges (k ∷ ks)) ≡ (step_at flow.edges k).cost + cost_of edge_shape (steps_of flow.edges ks) = sum_by-cons (λ (e : Edge). e.cost) (step_at flow.edges k) (steps_of flow.edges ks) in
      let other : cost_of number_shape (edges_of tree.edges (k ∷ ks)) ≡ (edge_at tree.edges k).cost + cost_of number_shape (edges_of tree.edges ks) = sum_by-cons (λ (e : NumberedEdge). e.cost) (edge_at tree.edges k) (edges_of tree.edges ks) in
      omega arith

  -- ## Walks

  pub leads_up : (ks : List ℕ) (p q : ℕ) → AreNumbersOf flow ks → O.Leads tree.edges p (edges_of tree.edges ks) q → Leads edge_shape (HasEdge flow) (place_in flow tree p) (steps_of flow.edges ks) (place_in flow tree q)
  leads_up [] p q inside h = ap place h
  leads_up (k ∷ ks) p q inside h =
      let lt = All-head (λ (n : ℕ). n < length flow.edges) k ks inside in
      let here = edge_same k lt in
      let rest = leads_up ks (edge_at tree.edges k).to q (All-tail (λ (n : ℕ). n < length flow.edges) k ks inside) h.2 in (
        Contains-get_or flow.edges k no_edge lt,
        sym here.from_is ∙ ap place h.1,
        subst (λ (x : Place). Leads edge_shape (HasEdge flow) x (steps_of flow.edges ks) (place q)) here.to_is rest,
      )

  -- where the numbered walk ends
  pub record HasEnd (ks : List ℕ) (p : ℕ) (end : Place) : Type 0 where
    pub last : ℕ
    pub last_in : last ≤ length flow.places
    pub last_is : place_in flow tree last ≡ end
    pub leads : O.Leads tree.edges p (edges_of tree.edges ks) last

  pub leads_down : (ks : List ℕ) (p : ℕ) (end : Place) → p ≤ length flow.places → AreNumbersOf flow ks → Leads edge_shape (HasEdge flow) (place_in flow tree p) (steps_of flow.edges ks) end → HasEnd ks p end
  leads_down [] p end le inside h = record { last = p; last_in = le; last_is = h; leads = refl }
  leads_down (k ∷ ks) p end le inside h =
      let lt : k < length flow.edges = All-head (λ (n : ℕ). n < length flow.edges) k ks inside in
      let here = edge_same k lt in
      let from_in : (edge_at tree.edges k).from < exit = here.from_in in
      let rest = leads_down ks (edge_at tree.edges k).to end here.to_in (All-tail (λ (n : ℕ). n < length flow.edges) k ks inside) (subst (λ (x : Place). Leads edge_shape (HasEdge flow) x (steps_of flow.edges ks) end) (sym here.to_is) h.2) in
      record {
        last = rest.last;
        last_in = rest.last_in;
        last_is = rest.last_is;
        leads = (
          Contains-get_or tree.edges k no_numbered_edge (omega (arith, t.numbered.same)),
          number_is (edge_at tree.edges k).from p (omega arith) le (here.from_is ∙ h.1),
          rest.leads,
        );
      }

  -- ## Instances and their spans

  pub record HasSpan (i : Instance) : Type 0 where
    pub span : Span
    pub in_tree : Contains tree.spans span
    pub span_is : IsSpanOf flow tree i span

  pub record HasInstance (s : Span) : Type 0 where
    pub instance : Instance
    pub in_tree : Contains tree.instances instance
    pub span_is : IsSpanOf flow tree instance s

  pub span_of : (i : Instance) → Contains tree.instances i → HasSpan i
  span_of i (k, lt, at) = record {
    span = get_or tree.spans k no_span;
    in_tree = Contains-get_or tree.spans k no_span (omega (arith, t.spans_are.same));
    span_is = subst (λ (x : Instance). IsSpanOf flow tree x (get_or tree.spans k no_span)) at (t.spans_are.each k i no_span lt);
  }

  pub instance_of : (s : Span) → Contains tree.spans s → HasInstance s
  instance_of s (k, lt, at) =
      let below : k < length tree.instances = omega (arith, t.spans_are.same) in
      record {
        instance = get_or tree.instances k no_instance;
        in_tree = Contains-get_or tree.instances k no_instance below;
        span_is = subst (λ (x : Span). IsSpanOf flow tree (get_or tree.instances k no_instance) x) at (t.spans_are.each k no_instance s below);
      }

  module _ (i : Instance) (s : Span) (span_is : IsSpanOf flow tree i s) where
    pub member_same : (p : Place) (n : ℕ) → n ≤ length flow.places → place_in flow tree n ≡ p → is_member i p ≡ is_in s n
    member_same p n le at = ap (is_member i) (sym at) ∙ span_is.members n le

    pub header_same : (p : Place) (n : ℕ) → n ≤ length flow.places → place_in flow tree n ≡ p → is_header i p ≡ eqb n s.header
    header_same p n le at = ap (is_header i) (sym at) ∙ span_is.headers n le

    -- an edge lies inside, and turns back, in both alike
    agree : (k : ℕ) → k < length flow.edges → Agree (step_at flow.edges) (edge_at tree.edges) (G.is_inside edge_shape place_loops i) (G.ends_at_header edge_shape place_loops i) (O.is_inside s) (O.ends_at_header s) k
    agree k lt =
        let e : Edge = step_at flow.edges k in
        let n : NumberedEdge = edge_at tree.edges k in
        let here : NumbersEdge place exit e n = edge_same k lt in
        let from_in : n.from < exit = here.from_in in
        let a : is_member i e.from ≡ is_in s n.from = member_same e.from n.from (omega arith) here.from_is in
        let b : is_member i e.to ≡ is_in s n.to = member_same e.to n.to here.to_in here.to_is in
        ((λ j. a j && b j), header_same e.to n.to here.to_in here.to_is)

    pub agree_all : (ks : List ℕ) → AreNumbersOf flow ks → All (Agree (step_at flow.edges) (edge_at tree.edges) (G.is_inside edge_shape place_loops i) (G.ends_at_header edge_shape place_loops i) (O.is_inside s) (O.ends_at_header s)) ks
    agree_all ks inside = λ n d lt. agree (get_or ks n d) (inside n d lt)

  -- ## Bounds

  pub keeps_up : (ks : List ℕ) → AreNumbersOf flow ks → O.KeepsBounds tree.spans (edges_of tree.edges ks) → KeepsTree tree (steps_of flow.edges ks)
  keeps_up ks inside keeps i in_tree =
      let h = span_of i in_tree in
      let s : Span = h.span in
      keeps_back (step_at flow.edges) (edge_at tree.edges) (G.is_inside edge_shape place_loops i) (G.ends_at_header edge_shape place_loops i) (O.is_inside s) (O.ends_at_header s) i.bound s.bound (sym h.span_is.bound) ks (agree_all i s h.span_is ks inside) (keeps s h.in_tree)

  pub keeps_down : (ks : List ℕ) → AreNumbersOf flow ks → KeepsTree tree (steps_of flow.edges ks) → O.KeepsBounds tree.spans (edges_of tree.edges ks)
  keeps_down ks inside keeps s in_tree =
      let h = instance_of s in_tree in
      let i : Instance = h.instance in
      keeps_there (step_at flow.edges) (edge_at tree.edges) (G.is_inside edge_shape place_loops i) (G.ends_at_header edge_shape place_loops i) (O.is_inside s) (O.ends_at_header s) i.bound s.bound (sym h.span_is.bound) ks (agree_all i s h.span_is ks inside) (keeps i h.in_tree)

  -- ## Walks with their numbers

  -- a walk of the flow graph from its entry, by numbers
  pub record IsDown (walk : List Edge) (end : Place) : Type 0 where
    pub numbers : List ℕ
    pub inside : AreNumbersOf flow numbers
    pub walk_is : steps_of flow.edges numbers ≡ walk
    pub last : ℕ
    pub last_is : place_in flow tree last ≡ end
    pub last_in : last ≤ length flow.places
    pub leads : O.Leads tree.edges 0 (edges_of tree.edges numbers) last

  pub walk_down : (walk : List Edge) (end : Place) → Leads edge_shape (HasEdge flow) flow.entry walk end → IsDown walk end
  walk_down walk end h =
      let w : IsNamed flow.edges no_edge walk = named edge_shape flow.edges no_edge walk flow.entry end h in
      let moved : Leads edge_shape (HasEdge flow) (place 0) (steps_of flow.edges w.numbers) end =
      subst (λ (x : Place). Leads edge_shape (HasEdge flow) x (steps_of flow.edges w.numbers) end) (sym t.entry_first) (subst (λ (v : List Edge). Leads edge_shape (HasEdge flow) flow.entry v end) (sym w.same) h) in
      let down = leads_down w.numbers 0 end (omega arith) w.inside moved in
      record { numbers = w.numbers; inside = w.inside; walk_is = w.same; last = down.last; last_is = down.last_is; last_in = down.last_in; leads = down.leads }

  -- a numbered walk from 0, between places
  pub record IsUp (walk : List NumberedEdge) (last : ℕ) : Type 0 where
    pub numbers : List ℕ
    pub inside : AreNumbersOf flow numbers
    pub walk_is : edges_of tree.edges numbers ≡ walk
    pub leads : Leads edge_shape (HasEdge flow) flow.entry (steps_of flow.edges numbers) (place_in flow tree last)

  pub walk_up : (walk : List NumberedEdge) (last : ℕ) → O.Leads tree.edges 0 walk last → IsUp walk last
  walk_up walk last h =
      let w : IsNamed tree.edges no_numbered_edge walk = named number_shape tree.edges no_numbered_edge walk 0 last h in
      let inside : AreNumbersOf flow w.numbers = λ n d lt. omega (arith, w.inside n d lt, t.numbered.same) in
      let up = leads_up w.numbers 0 last inside (subst (λ (v : List NumberedEdge). O.Leads tree.edges 0 v last) (sym w.same) h) in
      record {
        numbers = w.numbers;
        inside = inside;
        walk_is = w.same;
        leads = subst (λ (x : Place). Leads edge_shape (HasEdge flow) x (steps_of flow.edges w.numbers) (place last)) t.entry_first up;
      }

  -- the number of Exit
  pub exit_is : (last : ℕ) → last ≤ length flow.places → place_in flow tree last ≡ Exit → last ≡ length flow.places
  exit_is last le is = number_is last exit le (omega arith) (is ∙ sym exit_place)

  pub complete_down : (walk : List Edge) → IsCompleteWalk flow walk → (w : List NumberedEdge) × O.IsComplete (length flow.places) tree.edges w
  complete_down walk h =
      let d = walk_down walk Exit h in
      (edges_of tree.edges d.numbers, subst (λ (n : ℕ). O.Leads tree.edges 0 (edges_of tree.edges d.numbers) n) (exit_is d.last d.last_in d.last_is) d.leads)

  pub complete_up : (walk : List NumberedEdge) → O.IsComplete (length flow.places) tree.edges walk → (w : List Edge) × IsCompleteWalk flow w
  complete_up walk h =
      let u = walk_up walk exit h in
      (steps_of flow.edges u.numbers, subst (λ (x : Place). Leads edge_shape (HasEdge flow) flow.entry (steps_of flow.edges u.numbers) x) exit_place u.leads)

  -- ## The greatest cost

  -- the greatest cost of a walk to a number is that of one to its place
  pub greatest_at : (p n : ℕ) → p ≤ length flow.places → O.IsGreatest p tree.edges tree.spans n → G.IsGreatest edge_shape (HasEdge flow) (KeepsTree tree) flow.entry (place_in flow tree p) n
  greatest_at p n p_in g =
      let u = walk_up g.walk p g.complete in
      let cost_is : O.cost_of (edges_of tree.edges u.numbers) ≡ O.cost_of g.walk = ap (λ (w : List NumberedEdge). O.cost_of w) u.walk_is in
      record {
        walk = steps_of flow.edges u.numbers;
        complete = u.leads;
        kept = keeps_up u.numbers u.inside (subst (λ (w : List NumberedEdge). O.KeepsBounds tree.spans w) (sym u.walk_is) g.kept);
        costs = costs_same u.numbers u.inside ∙ cost_is ∙ g.costs;
        upper = λ other leads kept.
            let d = walk_down other (place_in flow tree p) leads in
            let there : O.Leads tree.edges 0 (edges_of tree.edges d.numbers) p = subst (λ (m : ℕ). O.Leads tree.edges 0 (edges_of tree.edges d.numbers) m) (number_is d.last p d.last_in p_in d.last_is) d.leads in
            let keeps : O.KeepsBounds tree.spans (edges_of tree.edges d.numbers) = keeps_down d.numbers d.inside (subst (λ (w : List Edge). KeepsTree tree w) (sym d.walk_is) kept) in
            let most : O.cost_of (edges_of tree.edges d.numbers) ≤ n = g.upper (edges_of tree.edges d.numbers) there keeps in
            let same : cost_of edge_shape (steps_of flow.edges d.numbers) ≡ O.cost_of (edges_of tree.edges d.numbers) = costs_same d.numbers d.inside in
            let other_is : cost_of edge_shape (steps_of flow.edges d.numbers) ≡ cost_of edge_shape other = ap (λ (w : List Edge). cost_of edge_shape w) d.walk_is in
            omega arith;
      }

  pub greatest_up : (n : ℕ) → O.IsGreatest (length flow.places) tree.edges tree.spans n → G.IsGreatest edge_shape (HasEdge flow) (KeepsTree tree) flow.entry Exit n
  greatest_up n g = subst (λ (p : Place). G.IsGreatest edge_shape (HasEdge flow) (KeepsTree tree) flow.entry p n) exit_place (greatest_at exit n (omega arith) g)

  pub too_large_down : TreeTooLarge flow tree → O.TooLarge (length flow.places) tree.edges tree.spans
  too_large_down large =
      let d = walk_down large.walk large.place large.leads in
      let same : cost_of edge_shape (steps_of flow.edges d.numbers) ≡ O.cost_of (edges_of tree.edges d.numbers) = costs_same d.numbers d.inside in
      let walk_is : cost_of edge_shape (steps_of flow.edges d.numbers) ≡ cost_of edge_shape large.walk = ap (λ (w : List Edge). cost_of edge_shape w) d.walk_is in
      record {
        place = d.last;
        walk = edges_of tree.edges d.numbers;
        leads = d.leads;
        kept = keeps_down d.numbers d.inside (subst (λ (w : List Edge). KeepsTree tree w) (sym d.walk_is) large.kept);
        costs = subst (λ (m : ℕ). 2 ^ 63 ≤ m) (sym walk_is ∙ same) large.costs;
      }

  pub too_large_up : O.TooLarge (length flow.places) tree.edges tree.spans → TreeTooLarge flow tree
  too_large_up large =
      let u = walk_up large.walk large.place large.leads in
      let walk_is : O.cost_of (edges_of tree.edges u.numbers) ≡ O.cost_of large.walk = ap (λ (w : List NumberedEdge). O.cost_of w) u.walk_is in
      record {
        place = place large.place;
        walk = steps_of flow.edges u.numbers;
        leads = u.leads;
        kept = keeps_up u.numbers u.inside (subst (λ (w : List NumberedEdge). O.KeepsBounds tree.spans w) (sym u.walk_is) large.kept);
        costs = subst (λ (m : ℕ). 2 ^ 63 ≤ m) (sym walk_is ∙ sym (costs_same u.numbers u.inside)) large.costs;
      }

  -- ## Refusals

  pub fault_up : (fault : WalkFault) → F.IsWalkFault (length flow.places) tree.edges tree.spans fault → IsWalkFault flow tree fault
  fault_up Memory refused = tt
  fault_up NoCompleteWalk refused = λ walk complete. let w = complete_down walk complete in refused w.0 w.1
  fault_up BoundTooLarge refused = (complete_up refused.0.0 refused.0.1, too_large_up refused.1)
