-- What is found over numbers is the worst arrival over places.
use Rattle.std.proofs.Common.{◌≡◌, ◌∙◌, ℕ, ◌<◌, ◌≤◌, Bool, true, false, not, List, length, get_or, All}
use Rattle.std.proofs.Common.{Contains, Option, Some, None, Result, Ok, Err, ⊎_elim, sym, ap, subst, arith}
use Rattle.std.specs.Option.{IfSome}
use Rattle.std.specs.Result.{IfErr, IfOk, MatchResult}
use Rattle.std.proofs.lemmas.Bool.{both_ways, cases_Bool, cases_lt}
use Rattle.std.proofs.lemmas.List.{get_or-map, length-map}
use Rattle.std.proofs.lemmas.List.Elements.{All-map}
use Rattle.walks.specs.Walk.{cost_of}
use Rattle.walks.specs.declared.limits.TheConstants.{COST_LIMIT}
use Rattle.control_flow.specs.declared.edges.Edge.{Edge}
use Rattle.control_flow.specs.declared.places.Place.{Place}
use Rattle.control_flow.specs.Flow.{Flow, IsWellFormed, edge_shape}
use Rattle.statement.specs.Stated.{StatedLoops}
use Rattle.numbered_walks.specs.declared.span.NumberedEdge.{NumberedEdge}
use Rattle.numbered_walks.specs.declared.span.Span.{Span}
use Rattle.numbered_walks.specs.declared.fault.WalkFault.{WalkFault}
use Rattle.numbered_walks.specs.declared.fault.WalkFault.TheVariants.{NoCompleteWalk}
use Rattle.numbered_walks.specs.Found as numbered
use Rattle.numbered_walks.specs.Index.{edge_at, edges_of}
use Rattle.numbered_walks.specs.Ordered as O
use Rattle.numbered_walks.proofs.Finishing.{none_complete}
use Rattle.loop_bounds.specs.Bounds.{KeepsTheBounds}
use Rattle.loop_bounds.specs.Handler.{IsTreeOf}
use Rattle.loop_bounds.specs.Tree.{IsTree, Tree, place_in}
use Rattle.longest_walk.specs.Built.{step_at, steps_of}
use Rattle.longest_walk.specs.Longest.{IsWalkFault, KeepsTree}
use Rattle.longest_walk.proofs.CarryWalks.{AreNumbersOf, costs_same, edge_same, exit_place, fault_up}
use Rattle.longest_walk.proofs.CarryWalks.{keeps_down, keeps_up, walk_down, walk_up}
use Rattle.responses.specs.declared.ways.Way.{Way}
use Rattle.responses.specs.Arriving.{AreWays, HasGreatestThere, IsGreatestThere, cut_edges, is_before}
use Rattle.responses.specs.Arriving.{is_reached, is_number_at, is_there, way_at}
use Rattle.responses.specs.Response.{FirstComesTo, HasArrival, IsWorstArrival, is_at}
use Rattle.responses.proofs.Cutting.{back, comes_before, comes_low, ends_there, fault_back, forth, ordered}
use Rattle.responses.proofs.Cutting.{there_comes, there_ends}

-- some edge leads to Exit
abbrev pub LeadsOut : List NumberedEdge → ℕ → Type 0
LeadsOut edges exit = (e : NumberedEdge) × Contains edges e × (e.to ≡ exit)

pub leads_out : (edges other : List NumberedEdge) (exit end : ℕ) → edges ≡ other → exit ≡ end
    → LeadsOut edges exit → LeadsOut other end
leads_out edges other exit end is end_is out =
    subst (λ (n : ℕ). LeadsOut other n) end_is (subst (λ (es : List NumberedEdge). LeadsOut es exit) is out)

-- what a search along edges returns
abbrev pub IsSearched : List NumberedEdge → List Span → List Way → Result (Option ℕ) WalkFault → Type 0
IsSearched edges spans ways r =
    MatchResult r (λ greatest. IsGreatestThere edges spans ways (length ways) greatest
    × IfSome greatest (λ ticks. ticks < COST_LIMIT))
    (numbered.IsWalkFault (length ways) edges spans)

pub searched : (edges other : List NumberedEdge) (spans some : List Span) (ways these : List Way)
    (r : Result (Option ℕ) WalkFault) → edges ≡ other → spans ≡ some → ways ≡ these
    → IsSearched edges spans ways r → IsSearched other some these r
searched edges other spans some ways these r edges_are spans_are ways_are is =
    subst (λ (v : List Way). IsSearched other some v r) ways_are
    (subst (λ (v : List Span). IsSearched other v ways r) spans_are
    (subst (λ (v : List NumberedEdge). IsSearched v spans ways r) edges_are is))

-- a graph with no edge to Exit is refused
pub none_leaves : (flow : Flow) (tree : Tree) → IsWellFormed flow → (t : IsTree flow tree)
    → (LeadsOut tree.edges (length flow.places) → ⊥) → IsWalkFault flow tree NoCompleteWalk
none_leaves flow tree well t none =
    fault_up flow tree well t NoCompleteWalk
    (none_complete (length flow.places) tree.edges tree.spans t.ordered none)

module _ (flow : Flow) (loops : StatedLoops) (tree : Tree) (of : IsTreeOf flow loops tree)
    (well : IsWellFormed flow) (address : ℕ) (ways : List Way)
    (w : AreWays tree.edges (is_number_at flow tree address) (length flow.places) ways) where
  abbrev t : IsTree flow tree
  t = of.tree_is

  abbrev exit : ℕ
  exit = length flow.places

  abbrev at : ℕ → Bool
  at = is_number_at flow tree address

  abbrev cut : List NumberedEdge
  cut = cut_edges exit ways tree.edges

  -- ## Bounds

  stated_up : (walk : List Edge) → KeepsTree tree walk → KeepsTheBounds flow loops walk
  stated_up walk keeps = λ i is. keeps i ((of.instances i).1 is)

  stated_down : (walk : List Edge) → KeepsTheBounds flow loops walk → KeepsTree tree walk
  stated_down walk keeps = λ i has. keeps i ((of.instances i).0 has)

  -- ## Where walks go on

  before_off : (p : ℕ) → is_before (way_at ways p) ≡ true → at p ≡ false
  before_off p on =
      let holds : is_reached (way_at ways p) ≡ true =
      comes_before exit tree.edges tree.spans t.ordered at ways w p on in
      let go : is_before (way_at ways p) ≡ not (at p) =
      w.go_on p (comes_low exit tree.edges tree.spans t.ordered at ways w p holds) holds in
      ⊎_elim
      (λ (is : at p ≡ true). absurd (both_ways (is_before (way_at ways p)) (go ∙ ap not is) on))
      (λ (off : at p ≡ false). off)
      (cases_Bool (at p))

  there_at : (p : ℕ) → is_there (way_at ways p) ≡ true → at p ≡ true
  there_at p ends =
      let holds : is_reached (way_at ways p) ≡ true = there_comes (way_at ways p) ends in
      let go : is_before (way_at ways p) ≡ not (at p) =
      w.go_on p (comes_low exit tree.edges tree.spans t.ordered at ways w p holds) holds in
      ⊎_elim
      (λ (is : at p ≡ true). is)
      (λ (off : at p ≡ false). absurd (both_ways (is_before (way_at ways p)) (there_ends (way_at ways p) ends)
      (go ∙ ap not off)))
      (cases_Bool (at p))

  at_there : (p : ℕ) → is_reached (way_at ways p) ≡ true → at p ≡ true → is_there (way_at ways p) ≡ true
  at_there p holds is =
      ends_there (way_at ways p) holds
      (w.go_on p (comes_low exit tree.edges tree.spans t.ordered at ways w p holds) holds ∙ ap not is)

  -- ## Walks

  -- the edges of these numbers begin at the address alike, by place and by number
  from_same : (k : ℕ) → k < length flow.edges
      → at (edge_at tree.edges k).from ≡ is_at address (step_at flow.edges k).from
  from_same k lt = ap (is_at address) (edge_same flow tree well t k lt).from_is

  off_up : (ks : List ℕ) → AreNumbersOf flow ks
      → All (λ (e : NumberedEdge). is_before (way_at ways e.from) ≡ true) (edges_of tree.edges ks)
      → All (λ (e : Edge). is_at address e.from ≡ false) (steps_of flow.edges ks)
  off_up ks inside on = All-map (λ (e : Edge). is_at address e.from ≡ false) (step_at flow.edges) ks
      (λ n d lt.
      let k = get_or ks n d in
      let here : get_or (edges_of tree.edges ks) n (edge_at tree.edges d) ≡ edge_at tree.edges k =
      get_or-map (edge_at tree.edges) ks n d (edge_at tree.edges d) lt in
      let goes : is_before (way_at ways (edge_at tree.edges k).from) ≡ true =
      subst (λ (e : NumberedEdge). is_before (way_at ways e.from) ≡ true) here
      (on n (edge_at tree.edges d) (omega (arith, lt, length-map ks (edge_at tree.edges)))) in
      sym (from_same k (inside n d lt)) ∙ before_off (edge_at tree.edges k).from goes)

  off_down : (ks : List ℕ) → AreNumbersOf flow ks → All (λ (e : Edge). is_at address e.from ≡ false)
      (steps_of flow.edges ks) → All (λ (e : NumberedEdge). at e.from ≡ false) (edges_of tree.edges ks)
  off_down ks inside off = All-map (λ (e : NumberedEdge). at e.from ≡ false) (edge_at tree.edges) ks
      (λ n d lt.
      let k = get_or ks n d in
      let here : get_or (steps_of flow.edges ks) n (step_at flow.edges d) ≡ step_at flow.edges k =
      get_or-map (step_at flow.edges) ks n d (step_at flow.edges d) lt in
      from_same k (inside n d lt) ∙ subst (λ (e : Edge). is_at address e.from ≡ false) here
      (off n (step_at flow.edges d) (omega (arith, lt, length-map ks (step_at flow.edges)))))

  has_arrival : (n : ℕ) → HasGreatestThere (cut_edges (length flow.places) ways tree.edges) tree.spans ways n
      → HasArrival flow loops address n
  has_arrival n (p, ends, g) =
      let b = back exit tree.edges tree.spans t.ordered at ways w g.walk 0 p g.complete
      (there_comes (way_at ways p) ends) in
      let u = walk_up flow tree well t g.walk p b.1 in
      let on : All (λ (e : NumberedEdge). is_before (way_at ways e.from) ≡ true)
      (edges_of tree.edges u.numbers) =
      subst (λ (v : List NumberedEdge). All (λ (e : NumberedEdge). is_before (way_at ways e.from) ≡ true)
      v) (sym u.walk_is) b.2 in
      let kept : KeepsTree tree (steps_of flow.edges u.numbers) =
      keeps_up flow tree well t u.numbers u.inside
      (subst (λ (v : List NumberedEdge). O.KeepsBounds tree.spans v) (sym u.walk_is) g.kept) in
      record {
        walk = steps_of flow.edges u.numbers;
        place = place_in flow tree p;
        comes = record {
          leads = u.leads;
          kept = stated_up (steps_of flow.edges u.numbers) kept;
          before = off_up u.numbers u.inside on;
          there = there_at p ends;
        };
        costs = costs_same flow tree well t u.numbers u.inside
            ∙ ap (λ (v : List NumberedEdge). O.cost_of v) u.walk_is ∙ g.costs;
      }

  -- a walk over numbers that first comes to the address at a place
  record Arrives (walk : List Edge) : Type 0 where
    last : ℕ
    low : last < exit
    there : is_there (way_at ways last) ≡ true
    numbered_walk : List NumberedEdge
    leads : O.Leads cut 0 numbered_walk last
    kept : O.KeepsBounds tree.spans numbered_walk
    costs : cost_of edge_shape walk ≡ O.cost_of numbered_walk

  arrives : (walk : List Edge) (place : Place) → FirstComesTo flow loops address walk place → Arrives walk
  arrives walk place comes =
      let d = walk_down flow tree well t walk place comes.leads in
      let here : at d.last ≡ true = ap (is_at address) d.last_is ∙ comes.there in
      let low : d.last < exit = ⊎_elim
      (λ (l : d.last < exit). l)
      (λ (high : exit ≤ d.last).
      let last_in : d.last ≤ exit = d.last_in in
      let is : d.last ≡ exit = omega arith in
      let out : at d.last ≡ false = ap at is ∙ ap (is_at address) (exit_place flow tree well t) in
      absurd (both_ways (at d.last) out here))
      (cases_lt d.last exit) in
      let off : All (λ (e : Edge). is_at address e.from ≡ false) (steps_of flow.edges d.numbers) =
      subst (λ (v : List Edge). All (λ (e : Edge). is_at address e.from ≡ false) v)
      (sym d.walk_is) comes.before in
      let f = forth exit tree.edges tree.spans t.ordered at ways w (edges_of tree.edges d.numbers) 0 d.last
      d.leads low (w.first t.ordered.some) (off_down d.numbers d.inside off) in
      record {
        last = d.last;
        low = low;
        there = at_there d.last f.0 here;
        numbered_walk = edges_of tree.edges d.numbers;
        leads = f.1;
        kept = keeps_down flow tree well t d.numbers d.inside
            (subst (λ (v : List Edge). KeepsTree tree v) (sym d.walk_is) (stated_down walk comes.kept));
        costs = ap (λ (v : List Edge). cost_of edge_shape v) (sym d.walk_is)
            ∙ costs_same flow tree well t d.numbers d.inside;
      }

  worst_arrival : (greatest : Option ℕ)
      → IsGreatestThere (cut_edges (length flow.places) ways tree.edges) tree.spans ways
      (length flow.places) greatest → IsWorstArrival flow loops address greatest
  worst_arrival None none = λ walk place comes.
      let a : Arrives walk = arrives walk place comes in
      both_ways (is_there (way_at ways a.last)) (none a.last a.low) a.there
  worst_arrival (Some n) is = (
    has_arrival n is.0,
    λ walk place comes.
        let a : Arrives walk = arrives walk place comes in
        let m = is.1 a.last a.low a.there in
        let g : O.IsGreatest a.last cut tree.spans m.0 = m.1 in
        omega (arith, a.costs, g.upper a.numbered_walk a.leads a.kept, m.2),
  )

  -- where some edge leads to Exit, a refusal over the cut edges is one of the handler
  arrival_fault : LeadsOut tree.edges (length flow.places) → (fault : WalkFault)
      → numbered.IsWalkFault (length flow.places) (cut_edges (length flow.places) ways tree.edges) tree.spans
      fault → IsWalkFault flow tree fault
  arrival_fault (e, has, is) fault refused =
      fault_up flow tree well t fault
      (fault_back exit tree.edges tree.spans t.ordered at ways w e has is fault refused)

  -- ## What the search returns

  pub arrival_found : (r : Result (Option ℕ) WalkFault)
      → IsSearched (cut_edges (length flow.places) ways tree.edges) tree.spans ways r
      → IfOk r (IsWorstArrival flow loops address)
  arrival_found (Ok greatest) is =
      worst_arrival greatest (subst (λ (n : ℕ). IsGreatestThere cut tree.spans ways n greatest) w.whole is.0)
  arrival_found (Err fault) is = tt

  pub arrival_refused : LeadsOut tree.edges (length flow.places) → (r : Result (Option ℕ) WalkFault)
      → IsSearched (cut_edges (length flow.places) ways tree.edges) tree.spans ways r
      → IfErr r (IsWalkFault flow tree)
  arrival_refused out (Ok greatest) is = tt
  arrival_refused out (Err fault) is =
      arrival_fault out fault (subst (λ (n : ℕ). numbered.IsWalkFault n cut tree.spans fault) w.whole is)

  pub cut_ordered : O.IsOrdered (length flow.places) (cut_edges (length flow.places) ways tree.edges)
      tree.spans
  cut_ordered = ordered exit tree.edges tree.spans t.ordered at ways w
