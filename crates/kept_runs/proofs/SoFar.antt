-- A run that is followed, as far as it has come.
use Rattle.std.proofs.Common.{◌≡◌, ◌∙◌, ℕ, zero, suc, ◌+◌, ◌*◌, ◌<◌, ◌≤◌, List, [], ◌∷◌, ◌++◌, length, get_or, take, drop, map, None, refl, sym, ap, subst, arith, append_assoc, append-nil}
use Rattle.std.specs.Prelude.{Contains}
use Rattle.std.proofs.Math.ListN.{drop_of_length-le}
use Rattle.std.proofs.lemmas.List.{drop_more, get_or-replicate, get_or_default, length-replicate, take_more}
use Rattle.std.proofs.lemmas.List.Elements.{All-append, All-cons, All-nil, Contains-get_or}
use Rattle.image.specs.Image.{Words}
use Rattle.statement.specs.Stated.{Stated}
use Rattle.arm2_exec.specs.Run.{Runs}
use Rattle.arm2_exec.specs.State.{State}
use Rattle.arm2_exec.specs.Step.{address_in}
use Rattle.arm2_exec.specs.declared.machine.Input.{Input}
use Rattle.arm2_exec.specs.declared.machine.Ran.{Ran}
use Rattle.arm2_exec.specs.declared.machine.Stepped.{Stepped}
use Rattle.arm2_effect.specs.declared.step_end.Kind.TheVariants.{Plain, Stopped}
use Rattle.arm2_effect.specs.declared.step_end.Why.{Why}
use Rattle.arm2_exec.proofs.RunLemmas as R
use Rattle.arm2_exec.proofs.StepLemmas.{one_step}
use Rattle.walks.specs.Walk.{Leads}
use Rattle.walks.specs.Stretch.{Keeps}
use Rattle.walks.specs.Greatest as G
use Rattle.walks.proofs.Joins.{keeps_from_most, most_from_keeps}
use Rattle.walks.proofs.Leading.{Leads-append}
use Rattle.control_flow.specs.Flow.{Flow, HasEdge, IsWellFormed, edge_shape}
use Rattle.flow_graph.specs.StepLaw.{Follows, IsEdgeOf, IsPlaceOf}
use Rattle.control_flow.specs.declared.edges.Edge.{Edge}
use Rattle.control_flow.specs.declared.edges.Label.TheVariants.{Do}
use Rattle.control_flow.specs.declared.places.Place.{Place}
use Rattle.control_flow.specs.declared.places.Place.TheVariants.{At, Exit}
use Rattle.control_flow.proofs.Firsts.{no_edge}
use Rattle.loop_bounds.proofs.LayoutLemmas.{take_none}
use Rattle.numbered_walks.specs.declared.span.NumberedEdge.{NumberedEdge}
use Rattle.numbered_walks.specs.declared.span.Span.{Span}
use Rattle.numbered_walks.specs.Index.{edge_at, edges_of}
use Rattle.numbered_walks.specs.Ordered as O
use Rattle.numbered_walks.specs.Ordered.{ends_at_header, is_inside, number_shape}
use Rattle.numbered_walks.specs.Reach.{most_in}
use Rattle.loop_bounds.specs.Bounds.{IsCompleteWalk}
use Rattle.loop_bounds.specs.Instance.{place_loops}
use Rattle.loop_bounds.specs.Tree.{IsTree, Tree, place_in}
use Rattle.longest_walk.specs.Built.{step_at, steps_of}
use Rattle.longest_walk.specs.Longest.{KeepsTree}
use Rattle.walk_counts.specs.Counts.{is_same_label}
use Rattle.longest_walk.proofs.CarryWalks.{AreNumbersOf, edge_same, exit_is, exit_place, keeps_down, keeps_up, leads_up}
use Rattle.kept_runs.specs.declared.following.Follower.{Follower}
use Rattle.kept_runs.specs.declared.following.Unkept.{Unkept}
use Rattle.kept_runs.specs.declared.following.Unkept.TheVariants as unkept
use Rattle.kept_runs.specs.declared.following.Unkept.TheVariants.{NotAtEntry, TurnedBack, Unfinished}
use Rattle.kept_runs.specs.Following.{CanGo, CannotGo, Goes, IsFresh, IsNext, IsWhy, Halts}
use Rattle.kept_runs.specs.Judging.{IsMachineFor, IsPlaceFor}
use Rattle.kept_runs.specs.Keeping.{RunsTo, IsBefore, IsHandler, IsKeptRun, IsStrayedRun, IsUnkept, KeepsNone, IsAtAfter}
use Rattle.kept_runs.specs.Stays.{AreTurnsAfter}
use Rattle.kept_runs.proofs.OneStep.{lands, one_edge_of}
use Rattle.kept_runs.specs.Passing.{ArePasses, IsPass, IsTally, Pass}
use Rattle.kept_runs.proofs.PassLemmas.{fresh_tally, none_passed, one_passed, tally_more}
use Rattle.kept_runs.proofs.StepTaken.{index_in, leaves_number, leaves_place, place_is}

-- ## Lists

pub map_append : {X Y : Type 0} (f : X → Y) (xs ys : List X) → map f (xs ++ ys) ≡ map f xs ++ map f ys
map_append f [] ys = refl
map_append f (x ∷ xs) ys = ap (λ rest. f x ∷ rest) (map_append f xs ys)

-- one more in front of what follows
pub next_to : {X : Type 0} (xs : List X) (x : X) (rest : List X) → (xs ++ x ∷ []) ++ rest ≡ xs ++ x ∷ rest
next_to xs x rest = append_assoc xs (x ∷ []) rest

drop_none : {X : Type 0} (xs : List X) → drop 0 xs ≡ xs
drop_none [] = refl
drop_none (x ∷ xs) = refl

-- a walk's front keeps a bound that the walk keeps
pub front_keeps : {E : Type 0} (inside turns : E → _) (b : ℕ) (v w : List E) → Keeps inside turns b (v ++ w) → Keeps inside turns b v
front_keeps inside turns b v w keeps before stretch after is pass =
    keeps before stretch (after ++ w) (ap (λ u. u ++ w) is ∙ append_assoc (before ++ stretch) after w) pass

pub no_exit : (p : Place) (c : List ℕ) (a : ℕ) → p ≡ At c a → p ≡ Exit → ⊥
no_exit p c a at exit = let both : At c a ≡ Exit = sym at ∙ exit in cc

module _ (words : Words) (st : Stated) (flow : Flow) (tree : Tree) where
  -- how the rest of a walk goes on from where the run is
  pub record GoesOn (numbers : List ℕ) (x : Follower) (now : State) (left : List Input) (walk : List Edge) : Type 0 where
    pub rest : List Edge
    pub count : ℕ
    pub walk_is : walk ≡ steps_of flow.edges numbers ++ rest
    pub leads : Leads edge_shape (HasEdge flow) (place_in flow tree x.number) rest Exit
    pub follows : Follows words st flow.profile now (take count left) rest

  pub record SoFar (start : State) (inputs : List Input) (n : ℕ) (x : Follower) (now : State) : Type 0 where
    pub numbers : List ℕ
    pub inside : AreNumbersOf flow numbers
    pub leads : O.Leads tree.edges 0 (edges_of tree.edges numbers) x.number
    pub stepped : AreTurnsAfter tree.spans x.turns.items x.number (edges_of tree.edges numbers)
    pub follows : (rest : List Input) (more : List Edge) → Follows words st flow.profile now rest more
        → Follows words st flow.profile start (take n inputs ++ rest) (steps_of flow.edges numbers ++ more)
    pub passes : List Pass
    pub passed : (rest : List Input) (more : List Edge) (later : List Pass) → ArePasses flow now rest more later
        → ArePasses flow start (take n inputs ++ rest) (steps_of flow.edges numbers ++ more) (passes ++ later)
    pub tally_is : IsTally flow passes x.by_place.items
    pub ran : Ran
    pub runs : (rest : List Input) → R.SoFar start (take n inputs ++ rest) ran now rest
    pub going : ran.stopped ≡ None
    pub steps_are : ran.steps ≡ x.steps
    pub steps_count : x.steps ≡ n
    pub ticks_are : ran.ticks ≡ x.ticks
    pub only : (m : ℕ) (walk : List Edge) → IsCompleteWalk flow walk
        → Follows words st flow.profile start (take m inputs) walk → GoesOn numbers x now (drop n inputs) walk

module _ (words : Words) (st : Stated) (flow : Flow) (tree : Tree) (well : IsWellFormed flow) (handler : IsHandler words st flow tree) (start : State) (inputs : List Input) where
  abbrev t : IsTree flow tree
  t = handler.tree_is

  -- ## The beginning

  front : (rest : List Input) → take 0 inputs ++ rest ≡ rest
  front rest = ap (λ (is : List Input). is ++ rest) (take_none inputs)

  zero_plus : (n : ℕ) → n ≡ 0 + n
  zero_plus n = omega arith

  zero_added : (more : Ran) → more ≡ R.added (record { steps = 0; ticks = 0; elapsed = 0; stopped = None }) more
  zero_added more = λ j. record { steps = zero_plus more.steps j; ticks = zero_plus more.ticks j; elapsed = zero_plus more.elapsed j; stopped = more.stopped }

  none_in : (s : Span) → most_in s [] ≤ s.bound
  none_in s = omega arith

  pub begins : (x : Follower) → IsFresh (length flow.places) x → CanGo flow tree x start → SoFar words st flow tree start inputs 0 x start
  begins x fresh can = record {
    numbers = [];
    inside = All-nil (λ k. k < length flow.edges);
    leads = sym fresh.number_is;
    stepped = record {
      turns_are = λ s has here.
          let header : s.header < length flow.places = let shape = t.ordered.shape s has in omega (arith, shape.0, shape.1) in
          ap (λ (xs : List ℕ). get_or xs s.header 0) fresh.turns_are ∙ get_or-replicate (length flow.places + 1) s.header 0 0 (omega (arith, header));
      kept = λ s has. none_in s;
    };
    follows = λ rest more follows. subst (λ (is : List Input). Follows words st flow.profile start is more) (sym (front rest)) follows;
    passes = [];
    passed = λ rest more later are. subst (λ (is : List Input). ArePasses flow start is more later) (sym (front rest)) are;
    tally_is = none_passed flow x.by_place.items (length flow.places) fresh.tally_is refl;
    ran = record { steps = 0; ticks = 0; elapsed = 0; stopped = None };
    runs = λ rest more after runs.
        subst (λ (is : List Input). Runs start is (R.added (record { steps = 0; ticks = 0; elapsed = 0; stopped = None }) more) after) (sym (front rest))
        (subst (λ (r : Ran). Runs start rest r after) (zero_added more) runs);
    going = refl;
    steps_are = sym fresh.steps_are;
    steps_count = fresh.steps_are;
    ticks_are = sym fresh.ticks_are;
    only = λ m walk complete follows. record {
      rest = walk;
      count = m;
      walk_is = refl;
      leads = subst (λ (p : Place). Leads edge_shape (HasEdge flow) p walk Exit) (sym t.entry_first ∙ ap (place_in flow tree) (sym fresh.number_is)) complete;
      follows = subst (λ (is : List Input). Follows words st flow.profile start (take m is) walk) (sym (drop_none inputs)) follows;
    };
  }

  -- the machine is at the entry
  pub can_begin : (x : Follower) → IsMachineFor flow start → address_in start.regs ≡ st.entry → {exit : ℕ} → IsFresh exit x → exit ≡ length flow.places → CanGo flow tree x start
  can_begin x machine at {exit = exit} fresh same =
      let some : 0 < length flow.places = t.ordered.some in
      let number = fresh.number_is in
      record {
        machine = machine;
        known = omega (arith, some, number);
        at = ([], ap (place_in flow tree) number ∙ t.entry_first ∙ handler.graph_is.entry_is ∙ ap (λ (a : ℕ). At [] a) (sym at));
        room = ap length fresh.turns_are ∙ length-replicate (exit + 1) 0 ∙ ap (λ (n : ℕ). n + 1) same;
        tally = fresh_tally flow x exit fresh.tally_is same;
      }

  -- ## How far it has come

  module _ (n : ℕ) (x : Follower) (now : State) (so_far : SoFar words st flow tree start inputs n x now) where
    all_is : take n inputs ++ [] ≡ take x.steps inputs
    all_is = append-nil (take n inputs) ∙ ap (λ (m : ℕ). take m inputs) (sym so_far.steps_count)

    come_leads : Leads edge_shape (HasEdge flow) flow.entry (steps_of flow.edges so_far.numbers) (place_in flow tree x.number)
    come_leads =
        subst (λ (p : Place). Leads edge_shape (HasEdge flow) p (steps_of flow.edges so_far.numbers) (place_in flow tree x.number)) t.entry_first
        (leads_up flow tree well t so_far.numbers 0 x.number so_far.inside so_far.leads)

    come_kept : KeepsTree tree (steps_of flow.edges so_far.numbers)
    come_kept =
        keeps_up flow tree well t so_far.numbers so_far.inside
        (λ s s_in. keeps_from_most (is_inside s) (ends_at_header s) s.bound (edges_of tree.edges so_far.numbers) (so_far.stepped.kept s s_in))

    come_follows : Follows words st flow.profile start (take x.steps inputs) (steps_of flow.edges so_far.numbers)
    come_follows =
        subst (λ (is : List Input). Follows words st flow.profile start is (steps_of flow.edges so_far.numbers)) all_is
        (subst (λ (v : List Edge). Follows words st flow.profile start (take n inputs ++ []) v) (append-nil (steps_of flow.edges so_far.numbers))
        (so_far.follows [] [] tt))

    come_passed : ArePasses flow start (take x.steps inputs) (steps_of flow.edges so_far.numbers) so_far.passes
    come_passed =
        subst (λ (is : List Input). ArePasses flow start is (steps_of flow.edges so_far.numbers) so_far.passes) all_is
        (subst (λ (v : List Edge). ArePasses flow start (take n inputs ++ []) v so_far.passes) (append-nil (steps_of flow.edges so_far.numbers))
        (subst (λ (ps : List Pass). ArePasses flow start (take n inputs ++ []) (steps_of flow.edges so_far.numbers ++ []) ps) (append-nil so_far.passes)
        (so_far.passed [] [] [] refl)))

    come_runs : Runs start (take x.steps inputs) so_far.ran now
    come_runs = subst (λ (is : List Input). Runs start is so_far.ran now) all_is (R.at_end start (take n inputs ++ []) so_far.ran now [] (so_far.runs []) refl so_far.going)

    come_few : n ≤ length inputs → x.steps ≤ length inputs
    come_few few = let count = so_far.steps_count in omega (arith, few, count)

    abbrev comes_to : CanGo flow tree x now → n ≤ length inputs → RunsTo words st flow tree start inputs x.steps (place_in flow tree x.number) now
    comes_to can few = record {
      few = come_few few;
      walk = steps_of flow.edges so_far.numbers;
      leads = come_leads;
      kept = come_kept;
      follows = come_follows;
      ran = so_far.ran;
      runs = come_runs;
      steps_are = so_far.steps_are;
      at = can.at;
    }

    there_at : (a : ℕ) → a ≡ address_in now.regs → IsAtAfter start inputs x.steps a
    there_at a here = record { ran = so_far.ran; now = now; runs = come_runs; at_is = here }

  -- ## One step more

  module _ (n : ℕ) (i : Input) (n_in : n < length inputs) (at : get_or inputs n i ≡ i) (x : Follower) (now : State) (can : CanGo flow tree x now) (so_far : SoFar words st flow tree start inputs n x now) where
    left_is : drop n inputs ≡ i ∷ drop (n + 1) inputs
    left_is = drop_more inputs n i n_in ∙ ap (λ (j : Input). j ∷ drop (n + 1) inputs) at

    done_is : take (n + 1) inputs ≡ take n inputs ++ i ∷ []
    done_is = take_more inputs n i n_in ∙ ap (λ (j : Input). take n inputs ++ j ∷ []) at

    more_is : (rest : List Input) → take (n + 1) inputs ++ rest ≡ take n inputs ++ i ∷ rest
    more_is rest = ap (λ (is : List Input). is ++ rest) done_is ∙ next_to (take n inputs) i rest

    -- the next edge of a complete walk that a run follows
    pub record HasNext (walk : List Edge) : Type 0 where
      pub edge : ℕ
      pub stepped : Stepped
      pub after : State
      pub next : IsNext words st flow tree x now i stepped after edge
      pub rest : List Edge
      pub count : ℕ
      pub walk_is : walk ≡ steps_of flow.edges so_far.numbers ++ step_at flow.edges edge ∷ rest
      pub leads : Leads edge_shape (HasEdge flow) (step_at flow.edges edge).to rest Exit
      pub follows : Follows words st flow.profile after (take count (drop (n + 1) inputs)) rest

    next_by : (walk rest : List Edge) (count : ℕ) → walk ≡ steps_of flow.edges so_far.numbers ++ rest → Leads edge_shape (HasEdge flow) (place_in flow tree x.number) rest Exit → Follows words st flow.profile now (take count (i ∷ drop (n + 1) inputs)) rest → HasNext walk
    next_by walk [] count is leads follows = absurd (no_exit (place_in flow tree x.number) can.at.0 (address_in now.regs) can.at.1 leads)
    next_by walk (e ∷ rest) zero is leads follows = absurd follows
    next_by walk (e ∷ rest) (suc count) is leads follows =
        let k : ℕ = leads.0.0 in
        let known : k < length flow.edges = leads.0.1 in
        let same : step_at flow.edges k ≡ e = get_or_default flow.edges k no_edge e known ∙ leads.0.2 in
        record {
          edge = k;
          stepped = follows.0;
          after = follows.1;
          next = record {
            known = known;
            is_edge_of = subst (λ (d : Edge). IsEdgeOf words st flow.profile now i follows.0 follows.1 d) (sym same) follows.2;
            from = leaves_number words st flow tree well t x now can k known (ap (λ (d : Edge). d.from) same ∙ leads.1);
          };
          rest = rest;
          count = count;
          walk_is = is ∙ ap (λ (d : Edge). steps_of flow.edges so_far.numbers ++ d ∷ rest) (sym same);
          leads = subst (λ (d : Edge). Leads edge_shape (HasEdge flow) d.to rest Exit) (sym same) leads.2;
          follows = follows.3;
        }

    pub has_next : (m : ℕ) (walk : List Edge) → IsCompleteWalk flow walk → Follows words st flow.profile start (take m inputs) walk → HasNext walk
    has_next m walk complete follows =
        let on = so_far.only m walk complete follows in
        next_by walk on.rest on.count on.walk_is on.leads
        (subst (λ (is : List Input). Follows words st flow.profile now (take on.count is) on.rest) left_is on.follows)

    -- a walk that goes on by an edge, along places and along numbers
    module _ (k : ℕ) (k_in : k < length flow.edges) where
      inside_on : AreNumbersOf flow (so_far.numbers ++ k ∷ [])
      inside_on = All-append (λ j. j < length flow.edges) so_far.numbers (k ∷ []) so_far.inside (All-cons (λ j. j < length flow.edges) k [] k_in (All-nil (λ j. j < length flow.edges)))

      up_on : steps_of flow.edges (so_far.numbers ++ k ∷ []) ≡ steps_of flow.edges so_far.numbers ++ step_at flow.edges k ∷ []
      up_on = map_append (step_at flow.edges) so_far.numbers (k ∷ [])

      down_on : edges_of tree.edges (so_far.numbers ++ k ∷ []) ≡ edges_of tree.edges so_far.numbers ++ edge_at tree.edges k ∷ []
      down_on = map_append (edge_at tree.edges) so_far.numbers (k ∷ [])

      -- where the walk by places keeps the bounds, that by numbers does
      keeps_on : KeepsTree tree (steps_of flow.edges so_far.numbers ++ step_at flow.edges k ∷ []) → (s : Span) → Contains tree.spans s → most_in s (edges_of tree.edges so_far.numbers ++ edge_at tree.edges k ∷ []) ≤ s.bound
      keeps_on keeps s s_in =
          let kept : O.KeepsBounds tree.spans (edges_of tree.edges (so_far.numbers ++ k ∷ [])) =
          keeps_down flow tree well t (so_far.numbers ++ k ∷ []) inside_on (subst (λ (v : List Edge). KeepsTree tree v) (sym up_on) keeps) in
          most_from_keeps (is_inside s) (ends_at_header s) s.bound (edges_of tree.edges so_far.numbers ++ edge_at tree.edges k ∷ [])
          (subst (λ (v : List NumberedEdge). Keeps (is_inside s) (ends_at_header s) s.bound v) down_on (kept s s_in))

    -- no complete walk goes on
    none_next : CannotGo words st flow tree x now i → KeepsNone words st flow tree start inputs
    none_next cannot m keeps =
        let h = has_next m keeps.walk keeps.complete keeps.follows in
        let front : List Edge = steps_of flow.edges so_far.numbers ++ step_at flow.edges h.edge ∷ [] in
        let whole : keeps.walk ≡ (steps_of flow.edges so_far.numbers ++ step_at flow.edges h.edge ∷ []) ++ h.rest =
        h.walk_is ∙ sym (next_to (steps_of flow.edges so_far.numbers) (step_at flow.edges h.edge) h.rest) in
        let kept : KeepsTree tree (steps_of flow.edges so_far.numbers ++ step_at flow.edges h.edge ∷ []) = λ j in_tree.
        front_keeps (G.is_inside edge_shape place_loops j) (G.ends_at_header edge_shape place_loops j) j.bound (steps_of flow.edges so_far.numbers ++ step_at flow.edges h.edge ∷ []) h.rest
        (subst (λ (v : List Edge). G.KeepsBound edge_shape place_loops j v) whole (keeps.kept j in_tree)) in
        cannot h.stepped h.after h.edge h.next (edges_of tree.edges so_far.numbers) so_far.stepped (keeps_on h.edge h.next.known kept)

    -- how far the run has come
    comes : RunsTo words st flow tree start inputs x.steps (place_in flow tree x.number) now
    comes = comes_to n x now so_far can (omega (arith, n_in))

    before : IsBefore words st flow tree start inputs x.steps
    before = record {
      place = place_in flow tree x.number;
      now = now;
      input = i;
      comes = comes;
      at = let count = so_far.steps_count in omega (arith, n_in, count);
      input_is = ap (λ (m : ℕ). get_or inputs m i) so_far.steps_count ∙ at;
    }

    unkept_by : (last : State) (why : Unkept) → CannotGo words st flow tree x now i → IsWhy words st flow tree x now i last why → IsUnkept words st flow tree start inputs x.steps last why
    unfolding before comes
    unkept_by last NotAtEntry cannot is = absurd is
    unkept_by last (unkept.Stray stray) cannot is = record { before = before; is = is }
    unkept_by last (TurnedBack span) cannot (stepped, k, next, in_tree, header) = record {
      before = before;
      stepped = stepped;
      edge = step_at flow.edges k;
      is_edge_of = next.is_edge_of;
      from = leaves_place words st flow tree well t x now can k next.known next.from;
      in_tree = in_tree;
      to = sym (edge_same flow tree well t k next.known).to_is ∙ ap (place_in flow tree) header;
      broken = λ keeps. cannot stepped last k next (edges_of tree.edges so_far.numbers) so_far.stepped (keeps_on k next.known keeps);
    }
    unkept_by last Unfinished cannot is = absurd is

    pub strays : (last : State) (a : ℕ) (why : Unkept) → a ≡ address_in now.regs → Halts words st flow tree x now i last why → IsStrayedRun words st flow tree start inputs x.steps a why last
    strays last a why here h = record { none = none_next h.cannot; ends_at = there_at n x now so_far a here; is = unkept_by last why h.cannot h.is }

    module _ (y : Follower) (after : State) (goes : Goes words st flow tree x y now i after) where
      abbrev k : ℕ
      k = goes.edge

      pub numbers_more : List ℕ
      numbers_more = so_far.numbers ++ goes.edge ∷ []

      step_up : steps_of flow.edges (so_far.numbers ++ goes.edge ∷ []) ≡ steps_of flow.edges so_far.numbers ++ step_at flow.edges goes.edge ∷ []
      step_up = map_append (step_at flow.edges) so_far.numbers (goes.edge ∷ [])

      step_down : edges_of tree.edges (so_far.numbers ++ goes.edge ∷ []) ≡ edges_of tree.edges so_far.numbers ++ edge_at tree.edges goes.edge ∷ []
      step_down = map_append (edge_at tree.edges) so_far.numbers (goes.edge ∷ [])

      ends : (step_at flow.edges goes.edge).to ≡ place_in flow tree y.number
      ends = sym (edge_same flow tree well t goes.edge goes.next.known).to_is ∙ ap (place_in flow tree) (sym goes.number_is)

      -- the step, by the place where it begins
      abbrev pass : Pass
      pass = record { place = get_or tree.order x.number 0; done = is_same_label (step_at flow.edges goes.edge).label Do; ticks = goes.stepped.ticks }

      place_known : get_or tree.order x.number 0 < length flow.places
      place_known = index_in words st flow tree well t x now can

      is_pass : IsPass flow (step_at flow.edges goes.edge) goes.stepped pass
      is_pass = record {
        known = place_known;
        begins = sym (leaves_place words st flow tree well t x now can goes.edge goes.next.known goes.next.from ∙ place_is words st flow tree well t x now can);
        done_is = refl;
        ticks_are = refl;
      }

      not_stopped : (w : Why) → goes.stepped.kind ≡ Stopped w → ⊥
      not_stopped w is = let both : Plain ≡ Stopped w = sym goes.next.is_edge_of.executes.plain ∙ is in cc

      goes_on : (walk : List Edge) → HasNext walk → GoesOn words st flow tree (so_far.numbers ++ goes.edge ∷ []) y after (drop (n + 1) inputs) walk
      goes_on walk h =
          let same = one_step now i goes.stepped h.stepped after h.after goes.next.is_edge_of.executes.step h.next.is_edge_of.executes.step in
          let edge : step_at flow.edges goes.edge ≡ step_at flow.edges h.edge =
          one_edge_of words st flow.profile now i goes.stepped h.stepped after h.after (step_at flow.edges goes.edge) (step_at flow.edges h.edge) goes.next.is_edge_of h.next.is_edge_of
          (leaves_place words st flow tree well t x now can goes.edge goes.next.known goes.next.from ∙ sym (leaves_place words st flow tree well t x now can h.edge h.next.known h.next.from)) in
          record {
            rest = h.rest;
            count = h.count;
            walk_is =
                h.walk_is ∙ sym (next_to (steps_of flow.edges so_far.numbers) (step_at flow.edges h.edge) h.rest)
                ∙ ap (λ (d : Edge). (steps_of flow.edges so_far.numbers ++ d ∷ []) ++ h.rest) (sym edge)
                ∙ ap (λ (v : List Edge). v ++ h.rest) (sym step_up);
            leads = subst (λ (p : Place). Leads edge_shape (HasEdge flow) p h.rest Exit) (ap (λ (d : Edge). d.to) (sym edge) ∙ ends) h.leads;
            follows = subst (λ (s : State). Follows words st flow.profile s (take h.count (drop (n + 1) inputs)) h.rest) same.1 h.follows;
          }

      pub more : SoFar words st flow tree start inputs (n + 1) y after
      more = record {
        numbers = so_far.numbers ++ goes.edge ∷ [];
        inside = All-append (λ j. j < length flow.edges) so_far.numbers (goes.edge ∷ []) so_far.inside (All-cons (λ j. j < length flow.edges) goes.edge [] goes.next.known (All-nil (λ j. j < length flow.edges)));
        leads =
            subst (λ (v : List NumberedEdge). O.Leads tree.edges 0 v y.number) (sym step_down)
            (Leads-append number_shape (Contains tree.edges) 0 x.number y.number (edges_of tree.edges so_far.numbers) (edge_at tree.edges goes.edge ∷ []) so_far.leads
            (Contains-get_or tree.edges goes.edge _ (let same = t.numbered.same in let lt = goes.next.known in omega (arith, same, lt)), goes.next.from, sym goes.number_is));
        stepped = subst (λ (v : List NumberedEdge). AreTurnsAfter tree.spans y.turns.items y.number v) (sym step_down) (goes.adds (edges_of tree.edges so_far.numbers) so_far.stepped);
        follows = λ rest more follows.
            subst (λ (is : List Input). Follows words st flow.profile start is (steps_of flow.edges (so_far.numbers ++ goes.edge ∷ []) ++ more)) (sym (more_is rest))
            (subst (λ (v : List Edge). Follows words st flow.profile start (take n inputs ++ i ∷ rest) v)
            (sym (next_to (steps_of flow.edges so_far.numbers) (step_at flow.edges goes.edge) more) ∙ ap (λ (v : List Edge). v ++ more) (sym step_up))
            (so_far.follows (i ∷ rest) (step_at flow.edges goes.edge ∷ more) (goes.stepped, after, goes.next.is_edge_of, follows)));
        passes = so_far.passes ++ pass ∷ [];
        passed = λ rest more later are.
            subst (λ (is : List Input). ArePasses flow start is (steps_of flow.edges (so_far.numbers ++ goes.edge ∷ []) ++ more) ((so_far.passes ++ pass ∷ []) ++ later)) (sym (more_is rest))
            (subst (λ (v : List Edge). ArePasses flow start (take n inputs ++ i ∷ rest) v ((so_far.passes ++ pass ∷ []) ++ later))
            (sym (next_to (steps_of flow.edges so_far.numbers) (step_at flow.edges goes.edge) more) ∙ ap (λ (v : List Edge). v ++ more) (sym step_up))
            (subst (λ (ps : List Pass). ArePasses flow start (take n inputs ++ i ∷ rest) (steps_of flow.edges so_far.numbers ++ step_at flow.edges goes.edge ∷ more) ps)
            (sym (next_to so_far.passes pass later))
            (so_far.passed (i ∷ rest) (step_at flow.edges goes.edge ∷ more) (pass ∷ later)
            (goes.stepped, after, goes.next.is_edge_of.executes.step, (pass, later, is_pass, are, refl)))));
        tally_is =
            one_passed flow x.by_place.items y.by_place.items (get_or tree.order x.number 0) (is_same_label (step_at flow.edges goes.edge).label Do) goes.stepped.ticks can.tally.whole place_known goes.tally_is so_far.passes so_far.tally_is;
        ran = record { steps = so_far.ran.steps + 1; ticks = so_far.ran.ticks + goes.stepped.ticks; elapsed = so_far.ran.elapsed + (goes.stepped.ticks + now.profile.burst * i.bursts); stopped = so_far.ran.stopped };
        runs = λ rest.
            subst (λ (is : List Input). R.SoFar start is (record { steps = so_far.ran.steps + 1; ticks = so_far.ran.ticks + goes.stepped.ticks; elapsed = so_far.ran.elapsed + (goes.stepped.ticks + now.profile.burst * i.bursts); stopped = so_far.ran.stopped }) after rest) (sym (more_is rest))
            (R.more_steps start (take n inputs ++ i ∷ rest) so_far.ran now after (i ∷ rest) rest i goes.stepped (so_far.runs (i ∷ rest)) refl goes.next.is_edge_of.executes.step not_stopped);
        going = so_far.going;
        steps_are = omega (arith, so_far.steps_are, goes.steps_are);
        steps_count = omega (arith, so_far.steps_count, goes.steps_are);
        ticks_are = omega (arith, so_far.ticks_are, goes.ticks_are);
        only = λ m walk complete follows. goes_on walk (has_next m walk complete follows);
      }

      -- where it is inside the handler, it may go on
      at_place : (p : Place) → (step_at flow.edges goes.edge).to ≡ p → IsPlaceOf st.leave goes.stepped.to p → (p ≡ Exit → ⊥) → IsPlaceFor p after
      at_place (At calls a) is to other = (calls, ap (λ (b : ℕ). At calls b) (to ∙ lands now i goes.stepped after goes.next.is_edge_of.executes.step goes.next.is_edge_of.executes.plain))
      at_place Exit is to other = absurd (other refl)

      to_in : y.number ≤ length flow.places
      to_in = let most = (edge_same flow tree well t goes.edge goes.next.known).to_in in let is = goes.number_is in omega (arith, most, is)

      pub can_more : (y.number ≡ length flow.places → ⊥) → CanGo flow tree y after
      can_more other =
          let inner : place_in flow tree y.number ≡ Exit → ⊥ = λ exit. other (exit_is flow tree well t y.number to_in exit) in
          record {
            machine = goes.machine;
            known = omega (arith, to_in, other);
            at = subst (λ (p : Place). IsPlaceFor p after) ends
                (at_place (step_at flow.edges goes.edge).to refl goes.next.is_edge_of.taken.to (λ exit. inner (sym ends ∙ exit)));
            room = goes.room;
            tally = tally_more flow x y (get_or tree.order x.number 0) (is_same_label (step_at flow.edges goes.edge).label Do) goes.stepped.ticks place_known can.tally goes.tally_is goes.steps_are goes.ticks_are;
          }

  -- ## The end

  pub left : (n : ℕ) (x : Follower) (now : State) → SoFar words st flow tree start inputs n x now → n ≤ length inputs → x.number ≡ length flow.places → IsKeptRun words st flow tree start inputs x.steps x.ticks x.by_place.items now
  left n x now so_far few at_exit =
      let end : place_in flow tree x.number ≡ Exit = ap (place_in flow tree) at_exit ∙ exit_place flow tree well t in
      record {
        few = come_few n x now so_far few;
        keeps = record {
          walk = steps_of flow.edges so_far.numbers;
          complete = subst (λ (p : Place). Leads edge_shape (HasEdge flow) flow.entry (steps_of flow.edges so_far.numbers) p) end (come_leads n x now so_far);
          kept = come_kept n x now so_far;
          follows = come_follows n x now so_far;
        };
        ran = so_far.ran;
        runs = come_runs n x now so_far;
        steps_are = so_far.steps_are;
        ticks_are = so_far.ticks_are;
        passes = so_far.passes;
        passes_are = come_passed n x now so_far;
        tally_is = so_far.tally_is;
      }

  -- the inputs end inside the handler
  none_left : (n : ℕ) (x : Follower) (now : State) → CanGo flow tree x now → SoFar words st flow tree start inputs n x now → length inputs ≤ n → KeepsNone words st flow tree start inputs
  none_left n x now can so_far past m keeps =
      let on = so_far.only m keeps.walk keeps.complete keeps.follows in
      let none : drop n inputs ≡ [] = drop_of_length-le inputs past in
      ends_by on.rest on.count on.leads (subst (λ (is : List Input). Follows words st flow.profile now (take on.count is) on.rest) none on.follows)
    where
      ends_by : (rest : List Edge) (count : ℕ) → Leads edge_shape (HasEdge flow) (place_in flow tree x.number) rest Exit → Follows words st flow.profile now (take count []) rest → ⊥
      ends_by [] count leads follows = no_exit (place_in flow tree x.number) can.at.0 (address_in now.regs) can.at.1 leads
      ends_by (e ∷ rest) zero leads follows = follows
      ends_by (e ∷ rest) (suc count) leads follows = follows

  pub unfinished : (n : ℕ) (x : Follower) (now : State) → CanGo flow tree x now → SoFar words st flow tree start inputs n x now → length inputs ≤ n → n ≤ length inputs → (a : ℕ) → a ≡ address_in now.regs → IsStrayedRun words st flow tree start inputs x.steps a Unfinished now
  unfinished n x now can so_far past few a here =
      let count = so_far.steps_count in
      record {
        none = none_left n x now can so_far past;
        ends_at = there_at n x now so_far a here;
        is = (omega (arith, count, past, few), (place_in flow tree x.number, comes_to n x now so_far can few));
      }

  -- the machine is not at the entry
  none_there : (address_in start.regs ≡ st.entry → ⊥) → KeepsNone words st flow tree start inputs
  none_there other m keeps = by_walk keeps.walk (take m inputs) keeps.complete keeps.follows
    where
      entry : flow.entry ≡ At [] st.entry
      entry = handler.graph_is.entry_is

      same_address : (c d : List ℕ) (a b : ℕ) → At c a ≡ At d b → a ≡ b
      same_address c d a b is = cc

      by_walk : (walk : List Edge) (is : List Input) → Leads edge_shape (HasEdge flow) flow.entry walk Exit → Follows words st flow.profile start is walk → ⊥
      by_walk [] is leads follows = no_exit flow.entry [] st.entry entry leads
      by_walk (e ∷ walk) [] leads follows = follows
      by_walk (e ∷ walk) (i ∷ is) leads follows =
          other (same_address follows.2.calls [] (address_in start.regs) st.entry (sym follows.2.taken.from ∙ leads.1 ∙ entry))

  pub elsewhere : (a : ℕ) → a ≡ address_in start.regs → (address_in start.regs ≡ st.entry → ⊥) → IsStrayedRun words st flow tree start inputs 0 a NotAtEntry start
  elsewhere a here other = record {
    none = none_there other;
    ends_at = record {
      ran = record { steps = 0; ticks = 0; elapsed = 0; stopped = None };
      now = start;
      runs = subst (λ (is : List Input). Runs start is (record { steps = 0; ticks = 0; elapsed = 0; stopped = None }) start) (sym (take_none inputs)) (refl, refl);
      at_is = here;
    };
    is = (refl, refl, other);
  }
