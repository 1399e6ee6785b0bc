-- A run of two handlers that is followed, as far as it has come.
use Rattle.std.proofs.Common.{◌≡◌, ◌≢◌, ◌∙◌, ◌⊎◌, inl, inr, ⊎_elim, ℕ, zero, suc, ◌+◌, ◌<◌, ◌≤◌, List, [], ◌∷◌, ◌++◌, length, get_or, take, drop, None, refl, sym, ap, subst, arith, append_assoc, append-nil}
use Rattle.std.proofs.Math.ListN.{drop_of_length-le}
use Rattle.std.proofs.Math.Seq.{drop-append_seam, take-add, take-append_seam}
use Rattle.std.proofs.lemmas.List.{drop_more, drop-drop, get_or-replicate, get_or_default, length-append, length-drop, length-take-le, take-append-drop, take_more}
use Rattle.std.proofs.lemmas.List.Elements.{All-nil}
use Rattle.arm2_exec.specs.Run.{Runs, with_one_step}
use Rattle.arm2_exec.specs.State.{State}
use Rattle.arm2_exec.specs.Step.{Step, address_in}
use Rattle.arm2_exec.specs.declared.machine.Input.{Input}
use Rattle.arm2_exec.specs.declared.machine.Ran.{Ran}
use Rattle.arm2_exec.specs.declared.machine.Stepped.{Stepped}
use Rattle.arm2_effect.specs.declared.exceptions.Vector.TheVariants.{Fiq}
use Rattle.arm2_effect.specs.declared.step_end.Kind.TheVariants.{Plain, Stopped, Taken}
use Rattle.arm2_effect.specs.declared.step_end.Why.{Why}
use Rattle.arm2_exec.proofs.RunLemmas as R
use Rattle.arm2_exec.proofs.StepLemmas.{one_step}
use Rattle.walks.specs.Walk.{Leads}
use Rattle.control_flow.specs.Flow.{HasEdge, IsWellFormed, edge_shape}
use Rattle.flow_graph.specs.StepLaw.{IsEdgeOf}
use Rattle.control_flow.specs.declared.edges.Edge.{Edge}
use Rattle.control_flow.specs.declared.places.Place.{Place}
use Rattle.control_flow.specs.declared.places.Place.TheVariants.{At, Exit}
use Rattle.control_flow.proofs.Firsts.{no_edge}
use Rattle.loop_bounds.proofs.LayoutLemmas.{take_none}
use Rattle.numbered_walks.specs.declared.span.Span.{Span}
use Rattle.numbered_walks.specs.Index.{edges_of}
use Rattle.numbered_walks.specs.Reach.{most_in}
use Rattle.loop_bounds.specs.Bounds.{IsCompleteWalk}
use Rattle.loop_bounds.specs.Tree.{IsTree, place_in}
use Rattle.longest_walk.specs.Built.{step_at, steps_of}
use Rattle.longest_walk.specs.Longest.{KeepsTree}
use Rattle.longest_walk.proofs.CarryWalks.{edge_same, exit_place}
use Rattle.kept_runs.specs.declared.following.Follower.{Follower}
use Rattle.kept_runs.specs.declared.following.Unkept.{Unkept}
use Rattle.kept_runs.specs.declared.following.Unkept.TheVariants as unkept
use Rattle.kept_runs.specs.declared.following.Unkept.TheVariants.{NotAtEntry, TurnedBack, Unfinished}
use Rattle.kept_runs.specs.declared.tally.Passed.{Passed}
use Rattle.kept_runs.specs.declared.visited.Followers.{Followers}
use Rattle.kept_runs.specs.declared.visited.VisitUnkept.TheVariants.{InMain, InVisit, NotBack}
use Rattle.kept_runs.specs.Following.{CanGo, CannotGo, Goes, Halts, IsFresh, IsNext, IsWhy}
use Rattle.kept_runs.specs.Keeping.{IsAtAfter, IsHandler, IsKeptRun, IsStrayedRun}
use Rattle.kept_runs.specs.Visited.{AreVisits, ComesTo, FollowsVisited, Handled, IsKeptVisited, IsStepAfter, IsStrayedVisited, IsUnkeptVisited, IsVisit, KeepsBothNever, KeepsFiq, LeadsVisited, MainStep, TakesFiqAfter, Visit, inputs_of, visits_before, visits_of}
use Rattle.kept_runs.specs.Visiting.{TakesFiq}
use Rattle.kept_runs.proofs.OneStep.{one_edge_of}
use Rattle.kept_runs.proofs.OneFront.{joined, never_stopped, one_front, one_run, same_first, same_rest}
use Rattle.kept_runs.proofs.SoFar.{next_to, no_exit}
use Rattle.kept_runs.proofs.StepTaken.{leaves_number, leaves_place}
use Rattle.kept_runs.proofs.VisitLists.{inputs_main, inputs_visit, leads_along, one_step_more, one_visit_more, visits_main}
use Rattle.kept_runs.proofs.Walked.{Walked, keeps_on, none_on, up_on, walked_kept, walked_leads, walked_more}

-- ## Lists

drop_none : {X : Type 0} (xs : List X) → drop 0 xs ≡ xs
drop_none [] = refl
drop_none (x ∷ xs) = refl

module _ (irq fiq : Handled) where
  -- how the rest of a run goes on from where it is
  pub record GoesOn (numbers : List ℕ) (x : Follower) (now : State) (left : List Input) (walk : List Edge) : Type 0 where
    pub rest : List Edge
    pub steps : List MainStep
    pub count : ℕ
    pub walk_is : walk ≡ steps_of irq.flow.edges numbers ++ rest
    pub leads : Leads edge_shape (HasEdge irq.flow) (place_in irq.flow irq.tree x.number) rest Exit
    pub inputs_are : inputs_of steps ≡ take count left
    pub follows : FollowsVisited (KeepsFiq irq fiq) irq.flow.profile irq.words irq.stated now steps rest

  pub record SoFar (start : State) (inputs : List Input) (n : ℕ) (x : Followers) (now : State) : Type 0 where
    pub numbers : List ℕ
    pub walked : Walked irq.flow irq.tree x.main numbers
    pub main : List MainStep
    pub last : State
    pub follows : LeadsVisited (KeepsFiq irq fiq) irq.flow.profile irq.words irq.stated start main (steps_of irq.flow.edges numbers) last
    pub visits : List Visit
    pub visited : AreVisits (KeepsFiq irq fiq) irq.flow.profile last visits now
    pub inputs_are : inputs_of main ++ visits_before visits [] ≡ take n inputs
    pub ran : Ran
    pub runs : (rest : List Input) → R.SoFar start (take n inputs ++ rest) ran now rest
    pub going : ran.stopped ≡ None
    pub steps_are : ran.steps ≡ n
    pub ticks_are : ran.ticks ≡ x.main.ticks + x.ticks
    pub visits_are : visits_of main + length visits ≡ x.visits
    pub only : (m : ℕ) (other : List MainStep) (walk : List Edge) → inputs_of other ≡ take m inputs → IsCompleteWalk irq.flow walk
        → FollowsVisited (KeepsFiq irq fiq) irq.flow.profile irq.words irq.stated start other walk → GoesOn numbers x.main now (drop n inputs) walk

module _ (irq fiq : Handled) (well : IsWellFormed irq.flow) (handler : IsHandler irq.words irq.stated irq.flow irq.tree) (start : State) (inputs : List Input) where
  abbrev t : IsTree irq.flow irq.tree
  t = handler.tree_is

  abbrev FollowsOn : State → List MainStep → List Edge → Type 0
  FollowsOn = FollowsVisited (KeepsFiq irq fiq) irq.flow.profile irq.words irq.stated

  abbrev up : List ℕ → List Edge
  up numbers = steps_of irq.flow.edges numbers

  -- ## The beginning

  front : (rest : List Input) → take 0 inputs ++ rest ≡ rest
  front rest = ap (λ (is : List Input). is ++ rest) (take_none inputs)

  zero_plus : (n : ℕ) → n ≡ 0 + n
  zero_plus n = omega arith

  zero_added : (more : Ran) → more ≡ R.added (record { steps = 0; ticks = 0; elapsed = 0; stopped = None }) more
  zero_added more = λ j. record { steps = zero_plus more.steps j; ticks = zero_plus more.ticks j; elapsed = zero_plus more.elapsed j; stopped = more.stopped }

  none_in : (s : Span) → most_in s [] ≤ s.bound
  none_in s = omega arith

  pub begins : (x : Followers) → IsFresh (length irq.flow.places) x.main → x.visits ≡ 0 → x.ticks ≡ 0 → SoFar irq fiq start inputs 0 x start
  begins x fresh no_visits no_ticks = record {
    numbers = [];
    walked = record {
      inside = All-nil (λ k. k < length irq.flow.edges);
      leads = sym fresh.number_is;
      stepped = record {
        turns_are = λ s has here.
            let header : s.header < length irq.flow.places = let shape = t.ordered.shape s has in omega (arith, shape.0, shape.1) in
            ap (λ (xs : List ℕ). get_or xs s.header 0) fresh.turns_are ∙ get_or-replicate (length irq.flow.places + 1) s.header 0 0 (omega (arith, header));
        kept = λ s has. none_in s;
      };
    };
    main = [];
    last = start;
    follows = refl;
    visits = [];
    visited = refl;
    inputs_are = sym (take_none inputs);
    ran = record { steps = 0; ticks = 0; elapsed = 0; stopped = None };
    runs = λ rest more after runs.
        subst (λ (is : List Input). Runs start is (R.added (record { steps = 0; ticks = 0; elapsed = 0; stopped = None }) more) after) (sym (front rest))
        (subst (λ (r : Ran). Runs start rest r after) (zero_added more) runs);
    going = refl;
    steps_are = refl;
    ticks_are = let main = fresh.ticks_are in omega (arith, main, no_ticks);
    visits_are = sym no_visits;
    only = λ m other walk is complete follows. record {
      rest = walk;
      steps = other;
      count = m;
      walk_is = refl;
      leads = subst (λ (p : Place). Leads edge_shape (HasEdge irq.flow) p walk Exit) (sym t.entry_first ∙ ap (place_in irq.flow irq.tree) (sym fresh.number_is)) complete;
      inputs_are = is ∙ ap (λ (xs : List Input). take m xs) (sym (drop_none inputs));
      follows = follows;
    };
  }

  -- ## How far it has come

  module _ (n : ℕ) (x : Followers) (now : State) (so_far : SoFar irq fiq start inputs n x now) where
    come_runs : Runs start (take n inputs) so_far.ran now
    come_runs = subst (λ (is : List Input). Runs start is so_far.ran now) (append-nil (take n inputs)) (R.at_end start (take n inputs ++ []) so_far.ran now [] (so_far.runs []) refl so_far.going)

    abbrev comes_to : CanGo irq.flow irq.tree x.main now → n ≤ length inputs → ComesTo irq fiq start inputs n (place_in irq.flow irq.tree x.main.number) now
    comes_to can few = record {
      few = few;
      walk = steps_of irq.flow.edges so_far.numbers;
      leads = walked_leads irq.words irq.stated irq.flow irq.tree well t x.main so_far.numbers so_far.walked;
      kept = walked_kept irq.words irq.stated irq.flow irq.tree well t x.main so_far.numbers so_far.walked;
      main = so_far.main;
      last = so_far.last;
      follows = so_far.follows;
      visits = so_far.visits;
      visited = so_far.visited;
      inputs_are = so_far.inputs_are;
      ran = so_far.ran;
      runs = come_runs;
      steps_are = so_far.steps_are;
      at = can.at;
    }

    there_at : (a : ℕ) → a ≡ address_in now.regs → IsAtAfter start inputs n a
    there_at a here = record { ran = so_far.ran; now = now; runs = come_runs; at_is = here }

  -- ## The next main step or visit of a run

  module _ (n : ℕ) (i : Input) (n_in : n < length inputs) (at : get_or inputs n i ≡ i) (x : Followers) (now : State) (can : CanGo irq.flow irq.tree x.main now) (so_far : SoFar irq fiq start inputs n x now) where
    abbrev left : List Input
    left = drop (n + 1) inputs

    left_is : drop n inputs ≡ i ∷ drop (n + 1) inputs
    left_is = drop_more inputs n i n_in ∙ ap (λ (j : Input). j ∷ drop (n + 1) inputs) at

    done_is : take (n + 1) inputs ≡ take n inputs ++ i ∷ []
    done_is = take_more inputs n i n_in ∙ ap (λ (j : Input). take n inputs ++ j ∷ []) at

    more_is : (rest : List Input) → take (n + 1) inputs ++ rest ≡ take n inputs ++ i ∷ rest
    more_is rest = ap (λ (is : List Input). is ++ rest) done_is ∙ next_to (take n inputs) i rest

    record HasMain (walk : List Edge) : Type 0 where
      edge : ℕ
      stepped : Stepped
      after : State
      next : IsNext irq.words irq.stated irq.flow irq.tree x.main now i stepped after edge
      rest : List Edge
      steps : List MainStep
      count : ℕ
      walk_is : walk ≡ steps_of irq.flow.edges so_far.numbers ++ step_at irq.flow.edges edge ∷ rest
      leads : Leads edge_shape (HasEdge irq.flow) (step_at irq.flow.edges edge).to rest Exit
      inputs_are : inputs_of steps ≡ take count (drop (n + 1) inputs)
      follows : FollowsVisited (KeepsFiq irq fiq) irq.flow.profile irq.words irq.stated after steps rest

    record HasVisit (walk : List Edge) : Type 0 where
      handling : List Input
      next : State
      is : IsVisit (KeepsFiq irq fiq) irq.flow.profile now (record { taking = i; handling = handling }) next
      tail : List Input
      split : handling ++ tail ≡ drop (n + 1) inputs
      rest : List Edge
      steps : List MainStep
      walk_is : walk ≡ steps_of irq.flow.edges so_far.numbers ++ rest
      leads : Leads edge_shape (HasEdge irq.flow) (place_in irq.flow irq.tree x.main.number) rest Exit
      inputs_are : inputs_of steps ≡ take (length (inputs_of steps)) tail
      follows : FollowsVisited (KeepsFiq irq fiq) irq.flow.profile irq.words irq.stated next steps rest

    none_first : (j : Input) (js : List Input) → j ∷ js ≡ [] → ⊥
    none_first j js is = cc

    by_visits : (walk : List Edge) (e : Edge) (rest : List Edge) (visits : List Visit) (input : Input) (steps : List MainStep) (count : ℕ) → walk ≡ steps_of irq.flow.edges so_far.numbers ++ e ∷ rest
        → Leads edge_shape (HasEdge irq.flow) (place_in irq.flow irq.tree x.main.number) (e ∷ rest) Exit
        → visits_before visits (input ∷ inputs_of steps) ≡ take count (i ∷ drop (n + 1) inputs)
        → FollowsVisited (KeepsFiq irq fiq) irq.flow.profile irq.words irq.stated now (record { visits = visits; input = input } ∷ steps) (e ∷ rest) → HasMain walk ⊎ HasVisit walk
    by_visits walk e rest [] input steps zero is leads are follows = absurd (none_first input (inputs_of steps) are)
    by_visits walk e rest [] input steps (suc count) is leads are follows =
        let k : ℕ = leads.0.0 in
        let known : k < length irq.flow.edges = leads.0.1 in
        let same : step_at irq.flow.edges k ≡ e = get_or_default irq.flow.edges k no_edge e known ∙ leads.0.2 in
        let first : input ≡ i = same_first input i (inputs_of steps) (take count (drop (n + 1) inputs)) are in
        let here : IsEdgeOf irq.words irq.stated irq.flow.profile now i follows.2.0 follows.2.1 e =
        subst (λ (s : State). IsEdgeOf irq.words irq.stated irq.flow.profile s i follows.2.0 follows.2.1 e) follows.1
        (subst (λ (j : Input). IsEdgeOf irq.words irq.stated irq.flow.profile follows.0 j follows.2.0 follows.2.1 e) first follows.2.2) in
        inl (record {
          edge = k;
          stepped = follows.2.0;
          after = follows.2.1;
          next = record {
            known = known;
            is_edge_of = subst (λ (d : Edge). IsEdgeOf irq.words irq.stated irq.flow.profile now i follows.2.0 follows.2.1 d) (sym same) here;
            from = leaves_number irq.words irq.stated irq.flow irq.tree well t x.main now can k known (ap (λ (d : Edge). d.from) same ∙ leads.1);
          };
          rest = rest;
          steps = steps;
          count = count;
          walk_is = is ∙ ap (λ (d : Edge). steps_of irq.flow.edges so_far.numbers ++ d ∷ rest) (sym same);
          leads = subst (λ (d : Edge). Leads edge_shape (HasEdge irq.flow) d.to rest Exit) (sym same) leads.2;
          inputs_are = same_rest input i (inputs_of steps) (take count (drop (n + 1) inputs)) are;
          follows = follows.2.3;
        })
    by_visits walk e rest (v ∷ visits) input steps zero is leads are follows = absurd (none_first v.taking (v.handling ++ visits_before visits (input ∷ inputs_of steps)) are)
    by_visits walk e rest (v ∷ visits) input steps (suc count) is leads are follows =
        let more : List Input = visits_before visits (input ∷ inputs_of steps) in
        let first : v.taking ≡ i = same_first v.taking i (v.handling ++ visits_before visits (input ∷ inputs_of steps)) (take count (drop (n + 1) inputs)) are in
        let then_are : v.handling ++ visits_before visits (input ∷ inputs_of steps) ≡ take count (drop (n + 1) inputs) =
        same_rest v.taking i (v.handling ++ visits_before visits (input ∷ inputs_of steps)) (take count (drop (n + 1) inputs)) are in
        inr (record {
          handling = v.handling;
          next = follows.1.0;
          is = subst (λ (j : Input). IsVisit (KeepsFiq irq fiq) irq.flow.profile now (record { taking = j; handling = v.handling }) follows.1.0) first follows.1.1;
          tail = visits_before visits (input ∷ inputs_of steps) ++ drop count (drop (n + 1) inputs);
          split =
              sym (append_assoc v.handling (visits_before visits (input ∷ inputs_of steps)) (drop count (drop (n + 1) inputs)))
              ∙ ap (λ (is : List Input). is ++ drop count (drop (n + 1) inputs)) then_are ∙ take-append-drop count (drop (n + 1) inputs);
          rest = e ∷ rest;
          steps = record { visits = visits; input = input } ∷ steps;
          walk_is = is;
          leads = leads;
          inputs_are = sym (take-append_seam (visits_before visits (input ∷ inputs_of steps)) (drop count (drop (n + 1) inputs)));
          follows = (follows.0, follows.1.2, follows.2);
        })

    parts : (walk rest : List Edge) (steps : List MainStep) (count : ℕ) → walk ≡ steps_of irq.flow.edges so_far.numbers ++ rest → Leads edge_shape (HasEdge irq.flow) (place_in irq.flow irq.tree x.main.number) rest Exit
        → inputs_of steps ≡ take count (i ∷ drop (n + 1) inputs) → FollowsVisited (KeepsFiq irq fiq) irq.flow.profile irq.words irq.stated now steps rest → HasMain walk ⊎ HasVisit walk
    parts walk [] steps count is leads are follows = absurd (no_exit (place_in irq.flow irq.tree x.main.number) can.at.0 (address_in now.regs) can.at.1 leads)
    parts walk (e ∷ rest) [] count is leads are follows = absurd follows
    parts walk (e ∷ rest) (m ∷ steps) count is leads are follows = by_visits walk e rest m.visits m.input steps count is leads are follows

    has_next : (m : ℕ) (other : List MainStep) (walk : List Edge) → inputs_of other ≡ take m inputs → IsCompleteWalk irq.flow walk
        → FollowsVisited (KeepsFiq irq fiq) irq.flow.profile irq.words irq.stated start other walk → HasMain walk ⊎ HasVisit walk
    has_next m other walk is complete follows =
        let on = so_far.only m other walk is complete follows in
        parts walk on.rest on.steps on.count on.walk_is on.leads (on.inputs_are ∙ ap (λ (xs : List Input). take on.count xs) left_is) on.follows

    not_both : (stepped other : Stepped) (after last : State) → Step now i stepped after → Step now i other last → stepped.kind ≡ Plain → other.kind ≡ Taken Fiq → ⊥
    not_both stepped other after last step also plain fiq =
        let same = one_step now i stepped other after last step also in
        let both : Plain ≡ Taken Fiq = sym plain ∙ ap (λ (x : Stepped). x.kind) (sym same.0) ∙ fiq in
        cc

    -- ## One more main step

    module _ (y : Followers) (after : State) (goes : Goes irq.words irq.stated irq.flow irq.tree x.main y.main now i after) (same_visits : y.visits ≡ x.visits) (same_ticks : y.ticks ≡ x.ticks) where
      goes_on : (walk : List Edge) → HasMain walk ⊎ HasVisit walk → GoesOn irq fiq (so_far.numbers ++ goes.edge ∷ []) y.main after (drop (n + 1) inputs) walk
      goes_on walk (inr v) = absurd (not_both goes.stepped v.is.stepped after v.is.entered goes.next.is_edge_of.executes.step v.is.step goes.next.is_edge_of.executes.plain v.is.takes_fiq)
      goes_on walk (inl h) =
          let same = one_step now i goes.stepped h.stepped after h.after goes.next.is_edge_of.executes.step h.next.is_edge_of.executes.step in
          let edge : step_at irq.flow.edges goes.edge ≡ step_at irq.flow.edges h.edge =
          one_edge_of irq.words irq.stated irq.flow.profile now i goes.stepped h.stepped after h.after (step_at irq.flow.edges goes.edge) (step_at irq.flow.edges h.edge) goes.next.is_edge_of h.next.is_edge_of
          (leaves_place irq.words irq.stated irq.flow irq.tree well t x.main now can goes.edge goes.next.known goes.next.from ∙ sym (leaves_place irq.words irq.stated irq.flow irq.tree well t x.main now can h.edge h.next.known h.next.from)) in
          record {
            rest = h.rest;
            steps = h.steps;
            count = h.count;
            walk_is =
                h.walk_is ∙ sym (next_to (steps_of irq.flow.edges so_far.numbers) (step_at irq.flow.edges h.edge) h.rest)
                ∙ ap (λ (d : Edge). (steps_of irq.flow.edges so_far.numbers ++ d ∷ []) ++ h.rest) (sym edge)
                ∙ ap (λ (v : List Edge). v ++ h.rest) (sym (up_on irq.words irq.stated irq.flow irq.tree well t x.main so_far.numbers so_far.walked goes.edge goes.next.known));
            leads =
                subst (λ (p : Place). Leads edge_shape (HasEdge irq.flow) p h.rest Exit)
                (ap (λ (d : Edge). d.to) (sym edge) ∙ sym (edge_same irq.flow irq.tree well t goes.edge goes.next.known).to_is ∙ ap (place_in irq.flow irq.tree) (sym goes.number_is)) h.leads;
            inputs_are = h.inputs_are;
            follows = subst (λ (s : State). FollowsVisited (KeepsFiq irq fiq) irq.flow.profile irq.words irq.stated s h.steps h.rest) same.1 h.follows;
          }

      not_stopped : (w : Why) → goes.stepped.kind ≡ Stopped w → ⊥
      not_stopped w is = let both : Plain ≡ Stopped w = sym goes.next.is_edge_of.executes.plain ∙ is in cc

      pub one_more : (so : SoFar irq fiq start inputs (n + 1) y after) × (so.visits ≡ [])
      one_more = (
        record {
          numbers = so_far.numbers ++ goes.edge ∷ [];
          walked = walked_more irq.words irq.stated irq.flow irq.tree well t x.main so_far.numbers so_far.walked y.main now i after goes;
          main = so_far.main ++ record { visits = so_far.visits; input = i } ∷ [];
          last = after;
          follows =
              subst (λ (v : List Edge). LeadsVisited (KeepsFiq irq fiq) irq.flow.profile irq.words irq.stated start (so_far.main ++ record { visits = so_far.visits; input = i } ∷ []) v after)
              (sym (up_on irq.words irq.stated irq.flow irq.tree well t x.main so_far.numbers so_far.walked goes.edge goes.next.known))
              (one_step_more (KeepsFiq irq fiq) irq.flow.profile irq.words irq.stated start so_far.main (steps_of irq.flow.edges so_far.numbers) so_far.last now so_far.visits i goes.stepped after (step_at irq.flow.edges goes.edge)
              so_far.follows so_far.visited goes.next.is_edge_of);
          visits = [];
          visited = refl;
          inputs_are =
              append-nil (inputs_of (so_far.main ++ record { visits = so_far.visits; input = i } ∷ []))
              ∙ inputs_main so_far.main so_far.visits i ∙ ap (λ (is : List Input). is ++ i ∷ []) so_far.inputs_are ∙ sym done_is;
          ran = with_one_step now.profile.burst i goes.stepped so_far.ran;
          runs = λ rest.
              subst (λ (is : List Input). R.SoFar start is (with_one_step now.profile.burst i goes.stepped so_far.ran) after rest) (sym (more_is rest))
              (R.more_steps start (take n inputs ++ i ∷ rest) so_far.ran now after (i ∷ rest) rest i goes.stepped (so_far.runs (i ∷ rest)) refl goes.next.is_edge_of.executes.step not_stopped);
          going = so_far.going;
          steps_are = let so = so_far.steps_are in omega (arith, so);
          ticks_are = let so = so_far.ticks_are in let more = goes.ticks_are in omega (arith, so, more, same_ticks);
          visits_are =
              let so = so_far.visits_are in
              let all = visits_main so_far.main (record { visits = so_far.visits; input = i }) in
              omega (arith, so, all, same_visits);
          only = λ m other walk is complete follows. goes_on walk (has_next m other walk is complete follows);
        },
        refl,
      )

    -- ## Where FIQ is taken

    module _ (entered : State) (takes : TakesFiq now i entered) where
      abbrev ran_in : Ran
      ran_in = with_one_step now.profile.burst i takes.stepped so_far.ran

      not_stop : (w : Why) → takes.stepped.kind ≡ Stopped w → ⊥
      not_stop w is = let both : Taken Fiq ≡ Stopped w = sym takes.takes_fiq ∙ is in cc

      entered_runs : (rest : List Input) → R.SoFar start (take n inputs ++ i ∷ rest) (with_one_step now.profile.burst i takes.stepped so_far.ran) entered rest
      entered_runs rest = R.more_steps start (take n inputs ++ i ∷ rest) so_far.ran now entered (i ∷ rest) rest i takes.stepped (so_far.runs (i ∷ rest)) refl takes.step not_stop

      no_main : (walk : List Edge) → HasMain walk → ⊥
      no_main walk h = not_both h.stepped takes.stepped h.after entered h.next.is_edge_of.executes.step takes.step h.next.is_edge_of.executes.plain takes.takes_fiq

      -- it is the same visit that any run makes, as far as FIQ is taken
      keeps_there : (walk : List Edge) (v : HasVisit walk) → KeepsFiq irq fiq entered v.handling
      keeps_there walk v =
          let same = one_step now i takes.stepped v.is.stepped entered v.is.entered takes.step v.is.step in
          subst (λ (s : State). KeepsFiq irq fiq s v.handling) same.1 v.is.keeps

      abbrev handled_in : ℕ → List Input
      handled_in k = take k (drop (n + 1) inputs)

      split_at : (k : ℕ) → take (n + 1 + k) inputs ≡ take n inputs ++ i ∷ take k (drop (n + 1) inputs)
      split_at k =
          take-add (n + 1) k inputs ∙ more_is (take k (drop (n + 1) inputs))

      few_in : (k : ℕ) → k ≤ length (drop (n + 1) inputs) → n + 1 + k ≤ length inputs
      few_in k few = let all = length-drop (n + 1) inputs in omega (arith, few, all, n_in)

      pub takes_after : n ≤ length inputs → TakesFiqAfter irq fiq start inputs n entered
      takes_after few = record {
        before = record {
          place = place_in irq.flow irq.tree x.main.number;
          now = now;
          input = i;
          comes = comes_to n x now so_far can few;
          at = n_in;
          input_is = at;
          stepped = takes.stepped;
          step = takes.step;
        };
        takes_fiq = takes.takes_fiq;
      }

      -- a run that ends in FIQ's handler
      ends_in : (k a : ℕ) → IsAtAfter entered (drop (n + 1) inputs) k a → IsAtAfter start inputs (n + 1 + k) a
      ends_in k a is = record {
        ran = R.added (with_one_step now.profile.burst i takes.stepped so_far.ran) is.ran;
        now = is.now;
        runs =
            subst (λ (js : List Input). Runs start js (R.added (with_one_step now.profile.burst i takes.stepped so_far.ran) is.ran) is.now) (sym (split_at k))
            (entered_runs (take k (drop (n + 1) inputs)) is.ran is.now is.runs);
        at_is = is.at_is;
      }

      -- FIQ's handler does not keep its statement
      none_in_visit : (k a : ℕ) (why : Unkept) (after : State) → IsStrayedRun fiq.words fiq.stated fiq.flow fiq.tree entered (drop (n + 1) inputs) k a why after → KeepsBothNever irq fiq start inputs
      none_in_visit k a why after strays m other is keeps = ⊎_elim (no_main keeps.walk)
          (λ (v : HasVisit keeps.walk).
          strays.none (length v.handling)
          (subst (KeepsFiq irq fiq entered) (sym (ap (take (length v.handling)) (sym v.split) ∙ take-append_seam v.handling v.tail)) (keeps_there keeps.walk v)))
          (has_next m other keeps.walk is keeps.complete keeps.follows)

      pub strays_in : (k a : ℕ) (why : Unkept) (after : State) → IsStrayedRun fiq.words fiq.stated fiq.flow fiq.tree entered (drop (n + 1) inputs) k a why after
          → IsStrayedVisited irq fiq start inputs (n + 1 + k) a (InVisit why) after
      strays_in k a why after strays = record {
        none = none_in_visit k a why after strays;
        ends_at = ends_in k a strays.ends_at;
        is = record { first = n; entered = entered; takes = takes_after (let lt = n_in in omega (arith, lt)); handling = k; steps_are = refl; strays = strays };
      }

      -- FIQ's handler keeps its statement
      module _ (k ticks : ℕ) (by_place : List Passed) (after : State) (run : IsKeptRun fiq.words fiq.stated fiq.flow fiq.tree entered (drop (n + 1) inputs) k ticks by_place after) where
        -- and any run has it
        same_handling : (walk : List Edge) (v : HasVisit walk) → v.handling ≡ take k (drop (n + 1) inputs)
        same_handling walk v =
            one_front fiq.words fiq.stated fiq.flow fiq.tree entered v.handling (take k (drop (n + 1) inputs)) v.tail (drop k (drop (n + 1) inputs))
            (v.split ∙ sym (take-append-drop k (drop (n + 1) inputs))) (keeps_there walk v) run.keeps

        same_end : (walk : List Edge) (v : HasVisit walk) → v.next ≡ after
        same_end walk v =
            let same = one_step now i takes.stepped v.is.stepped entered v.is.entered takes.step v.is.step in
            let theirs : Runs entered (take k (drop (n + 1) inputs)) v.is.ran v.next =
            subst (λ (js : List Input). Runs entered js v.is.ran v.next) (same_handling walk v) (subst (λ (s : State). Runs s v.handling v.is.ran v.next) same.1 v.is.runs) in
            (one_run entered (take k (drop (n + 1) inputs)) v.is.ran run.ran v.next after theirs run.runs).1

        same_tail : (walk : List Edge) (v : HasVisit walk) → v.tail ≡ drop (n + 1 + k) inputs
        same_tail walk v =
            let long : length v.handling ≡ k = ap length (same_handling walk v) ∙ length-take-le k (drop (n + 1) inputs) run.few in
            sym (drop-append_seam v.handling v.tail) ∙ ap (drop (length v.handling)) v.split ∙ ap (λ (j : ℕ). drop j (drop (n + 1) inputs)) long ∙ drop-drop k (n + 1) inputs

        none_elsewhere : (address_in after.regs ≢ address_in now.regs) → KeepsBothNever irq fiq start inputs
        none_elsewhere other m main is keeps = ⊎_elim (no_main keeps.walk)
            (λ (v : HasVisit keeps.walk). other (ap (λ (s : State). address_in s.regs) (sym (same_end keeps.walk v)) ∙ v.is.back))
            (has_next m main keeps.walk is keeps.complete keeps.follows)

        pub leaves_elsewhere : (a address : ℕ) → a ≡ address_in after.regs → address ≡ address_in now.regs → a ≢ address → IsStrayedVisited irq fiq start inputs (n + 1 + k) a (NotBack address) after
        unfolding takes_after
        leaves_elsewhere a address here interrupted other = record {
          none = none_elsewhere (λ is. other (here ∙ is ∙ sym interrupted));
          ends_at = ends_in k a (record { ran = run.ran; now = after; runs = run.runs; at_is = here });
          is = record {
            first = n;
            entered = entered;
            takes = takes_after (let lt = n_in in omega (arith, lt));
            handling = k;
            steps_are = refl;
            keeps = run.keeps;
            ran = run.ran;
            runs = run.runs;
            interrupted = interrupted;
            elsewhere = λ is. other (here ∙ is);
          };
        }

        module _ (y : Followers) (back : address_in after.regs ≡ address_in now.regs) (same_main : y.main ≡ x.main) (one_visit : y.visits ≡ x.visits + 1) (all_ticks : y.ticks ≡ x.ticks + (takes.stepped.ticks + ticks)) where
          abbrev visit : Visit
          visit = record { taking = i; handling = take k (drop (n + 1) inputs) }

          is_visit : IsVisit (KeepsFiq irq fiq) irq.flow.profile now (record { taking = i; handling = take k (drop (n + 1) inputs) }) after
          is_visit = record {
            stepped = takes.stepped;
            entered = entered;
            step = takes.step;
            takes_fiq = takes.takes_fiq;
            prices = can.machine.prices;
            keeps = run.keeps;
            ran = run.ran;
            runs = run.runs;
            back = back;
          }

          after_visit : (walk : List Edge) → HasMain walk ⊎ HasVisit walk → GoesOn irq fiq so_far.numbers y.main after (drop (n + 1 + k) inputs) walk
          after_visit walk (inl h) = absurd (no_main walk h)
          after_visit walk (inr v) = record {
            rest = v.rest;
            steps = v.steps;
            count = length (inputs_of v.steps);
            walk_is = v.walk_is;
            leads = subst (λ (f : Follower). Leads edge_shape (HasEdge irq.flow) (place_in irq.flow irq.tree f.number) v.rest Exit) (sym same_main) v.leads;
            inputs_are = v.inputs_are ∙ ap (take (length (inputs_of v.steps))) (same_tail walk v);
            follows = subst (λ (s : State). FollowsVisited (KeepsFiq irq fiq) irq.flow.profile irq.words irq.stated s v.steps v.rest) (same_end walk v) v.follows;
          }

          added_twice : (p q r : Ran) → R.added p (R.added q r) ≡ R.added (R.added p q) r
          added_twice p q r =
              let steps : p.steps + (q.steps + r.steps) ≡ p.steps + q.steps + r.steps = omega arith in
              let ticks : p.ticks + (q.ticks + r.ticks) ≡ p.ticks + q.ticks + r.ticks = omega arith in
              let elapsed : p.elapsed + (q.elapsed + r.elapsed) ≡ p.elapsed + q.elapsed + r.elapsed = omega arith in
              λ j. record { steps = steps j; ticks = ticks j; elapsed = elapsed j; stopped = r.stopped }

          abbrev ran_on : Ran
          ran_on = R.added (with_one_step now.profile.burst i takes.stepped so_far.ran) run.ran

          visit_runs : (rest : List Input) → R.SoFar start (take (n + 1 + k) inputs ++ rest) (R.added (with_one_step now.profile.burst i takes.stepped so_far.ran) run.ran) after rest
          visit_runs rest = λ more z goes.
              let there : Runs entered (take k (drop (n + 1) inputs) ++ rest) (R.added run.ran more) z =
              joined fiq.words fiq.stated fiq.flow.profile entered (take k (drop (n + 1) inputs)) rest run.keeps.walk run.ran more after z run.keeps.follows run.runs goes in
              subst (λ (r : Ran). Runs start (take (n + 1 + k) inputs ++ rest) r z) (added_twice (with_one_step now.profile.burst i takes.stepped so_far.ran) run.ran more)
              (subst (λ (js : List Input). Runs start js (R.added (with_one_step now.profile.burst i takes.stepped so_far.ran) (R.added run.ran more)) z)
              (sym (ap (λ (js : List Input). js ++ rest) (split_at k) ∙ append_assoc (take n inputs) (i ∷ take k (drop (n + 1) inputs)) rest))
              (entered_runs (take k (drop (n + 1) inputs) ++ rest) (R.added run.ran more) z there))

          pub one_visit_on : SoFar irq fiq start inputs (n + 1 + k) y after
          one_visit_on = record {
            numbers = so_far.numbers;
            walked = subst (λ (f : Follower). Walked irq.flow irq.tree f so_far.numbers) (sym same_main) so_far.walked;
            main = so_far.main;
            last = so_far.last;
            follows = so_far.follows;
            visits = so_far.visits ++ record { taking = i; handling = take k (drop (n + 1) inputs) } ∷ [];
            visited = one_visit_more (KeepsFiq irq fiq) irq.flow.profile so_far.last so_far.visits now (record { taking = i; handling = take k (drop (n + 1) inputs) }) after so_far.visited is_visit;
            inputs_are =
                inputs_visit so_far.main so_far.visits (record { taking = i; handling = take k (drop (n + 1) inputs) })
                ∙ ap (λ (js : List Input). js ++ i ∷ take k (drop (n + 1) inputs)) so_far.inputs_are ∙ sym (split_at k);
            ran = R.added (with_one_step now.profile.burst i takes.stepped so_far.ran) run.ran;
            runs = visit_runs;
            going = never_stopped fiq.words fiq.stated fiq.flow.profile entered (take k (drop (n + 1) inputs)) run.keeps.walk run.ran after run.keeps.follows run.runs;
            steps_are = let so = so_far.steps_are in let more = run.steps_are in omega (arith, so, more);
            ticks_are =
                let so = so_far.ticks_are in
                let more = run.ticks_are in
                let main : y.main.ticks ≡ x.main.ticks = ap (λ (f : Follower). f.ticks) same_main in
                omega (arith, so, more, main, all_ticks);
            visits_are =
                let so = so_far.visits_are in
                let long : length (so_far.visits ++ record { taking = i; handling = take k (drop (n + 1) inputs) } ∷ []) ≡ length so_far.visits + 1 = length-append so_far.visits (record { taking = i; handling = take k (drop (n + 1) inputs) } ∷ []) in
                omega (arith, so, long, one_visit);
            only = λ m other walk is complete follows. after_visit walk (has_next m other walk is complete follows);
          }

    -- ## Where the interrupted handler's step strays

    module _ (stepped : Stepped) (after : State) (step : Step now i stepped after) (no_fiq : stepped.kind ≢ Taken Fiq) (judged : State) (why : Unkept) (halts : Halts irq.words irq.stated irq.flow irq.tree x.main now i judged why) where
      before : IsStepAfter irq fiq start inputs n after
      before = record {
        place = place_in irq.flow irq.tree x.main.number;
        now = now;
        input = i;
        comes = comes_to n x now so_far can (let lt = n_in in omega (arith, lt));
        at = n_in;
        input_is = at;
        stepped = stepped;
        step = step;
      }

      none_next : KeepsBothNever irq fiq start inputs
      none_next m other is keeps = ⊎_elim
          (λ (h : HasMain keeps.walk).
          none_on irq.words irq.stated irq.flow irq.tree well t x.main so_far.numbers so_far.walked now i h.stepped h.after h.edge h.rest halts.cannot h.next
          (subst (λ (v : List Edge). KeepsTree irq.tree v) h.walk_is keeps.kept))
          (λ (v : HasVisit keeps.walk).
          let same = one_step now i stepped v.is.stepped after v.is.entered step v.is.step in
          no_fiq (ap (λ (x : Stepped). x.kind) (sym same.0) ∙ v.is.takes_fiq))
          (has_next m other keeps.walk is keeps.complete keeps.follows)

      unkept_by : (w : Unkept) (a : ℕ) → CannotGo irq.words irq.stated irq.flow irq.tree x.main now i → IsWhy irq.words irq.stated irq.flow irq.tree x.main now i judged w → IsUnkeptVisited irq fiq start inputs n a after (InMain w)
      unfolding before
      unkept_by NotAtEntry a cannot is = absurd is
      unkept_by (unkept.Stray stray) a cannot is = record { before = before; no_fiq = no_fiq; judged = judged; is = is }
      unkept_by (TurnedBack span) a cannot (made, k, next, in_tree, header) =
          let same = one_step now i stepped made after judged step next.is_edge_of.executes.step in
          record {
            before = before;
            edge = step_at irq.flow.edges k;
            is_edge_of =
                subst (λ (s : State). IsEdgeOf irq.words irq.stated irq.flow.profile now i stepped s (step_at irq.flow.edges k)) same.1
                (subst (λ (r : Stepped). IsEdgeOf irq.words irq.stated irq.flow.profile now i r judged (step_at irq.flow.edges k)) same.0 next.is_edge_of);
            from = leaves_place irq.words irq.stated irq.flow irq.tree well t x.main now can k next.known next.from;
            in_tree = in_tree;
            to = sym (edge_same irq.flow irq.tree well t k next.known).to_is ∙ ap (place_in irq.flow irq.tree) header;
            broken = λ keeps.
                cannot made judged k next (edges_of irq.tree.edges so_far.numbers) so_far.walked.stepped
                (keeps_on irq.words irq.stated irq.flow irq.tree well t x.main so_far.numbers so_far.walked k next.known keeps);
          }
      unkept_by Unfinished a cannot is = absurd is

      pub strays_in_main : (a : ℕ) → a ≡ address_in now.regs → IsStrayedVisited irq fiq start inputs n a (InMain why) after
      strays_in_main a here = record { none = none_next; ends_at = there_at n x now so_far a here; is = unkept_by why a halts.cannot halts.is }

  -- ## The end

  pub left_both : (n : ℕ) (x : Followers) (now : State) (so_far : SoFar irq fiq start inputs n x now) → so_far.visits ≡ [] → n ≤ length inputs → x.main.number ≡ length irq.flow.places → (ticks : ℕ) → ticks ≡ x.main.ticks + x.ticks → IsKeptVisited irq fiq start inputs n ticks x.visits now
  left_both n x now so_far no_visits few at_exit ticks ticks_are =
      let end : place_in irq.flow irq.tree x.main.number ≡ Exit = ap (place_in irq.flow irq.tree) at_exit ∙ exit_place irq.flow irq.tree well t in
      record {
        few = few;
        main = so_far.main;
        inputs_are =
            sym (append-nil (inputs_of so_far.main)) ∙ ap (λ (vs : List Visit). inputs_of so_far.main ++ visits_before vs []) (sym no_visits) ∙ so_far.inputs_are;
        keeps = record {
          walk = steps_of irq.flow.edges so_far.numbers;
          complete =
              subst (λ (p : Place). Leads edge_shape (HasEdge irq.flow) irq.flow.entry (steps_of irq.flow.edges so_far.numbers) p) end
              (walked_leads irq.words irq.stated irq.flow irq.tree well t x.main so_far.numbers so_far.walked);
          kept = walked_kept irq.words irq.stated irq.flow irq.tree well t x.main so_far.numbers so_far.walked;
          follows = leads_along (KeepsFiq irq fiq) irq.flow.profile irq.words irq.stated start so_far.main (steps_of irq.flow.edges so_far.numbers) so_far.last so_far.follows;
        };
        visits_are = let so = so_far.visits_are in let none : length so_far.visits ≡ 0 = ap length no_visits in omega (arith, so, none);
        ran = so_far.ran;
        runs = come_runs n x now so_far;
        steps_are = so_far.steps_are;
        ticks_are = so_far.ticks_are ∙ sym ticks_are;
      }

  -- the inputs end inside the handler
  none_left : (n : ℕ) (x : Followers) (now : State) → CanGo irq.flow irq.tree x.main now → SoFar irq fiq start inputs n x now → length inputs ≤ n → KeepsBothNever irq fiq start inputs
  none_left n x now can so_far past m other is keeps =
      let on = so_far.only m other keeps.walk is keeps.complete keeps.follows in
      let none : drop n inputs ≡ [] = drop_of_length-le inputs past in
      ends_by on.rest on.steps on.count on.leads (on.inputs_are ∙ ap (take on.count) none) on.follows
    where
      not_none : (visits : List Visit) (input : Input) (rest : List Input) (count : ℕ) → visits_before visits (input ∷ rest) ≡ take count [] → ⊥
      not_none [] input rest zero are = cc
      not_none [] input rest (suc count) are = cc
      not_none (v ∷ visits) input rest zero are = cc
      not_none (v ∷ visits) input rest (suc count) are = cc

      ends_by : (rest : List Edge) (steps : List MainStep) (count : ℕ) → Leads edge_shape (HasEdge irq.flow) (place_in irq.flow irq.tree x.main.number) rest Exit → inputs_of steps ≡ take count []
          → FollowsVisited (KeepsFiq irq fiq) irq.flow.profile irq.words irq.stated now steps rest → ⊥
      ends_by [] steps count leads are follows = no_exit (place_in irq.flow irq.tree x.main.number) can.at.0 (address_in now.regs) can.at.1 leads
      ends_by (e ∷ rest) [] count leads are follows = follows
      ends_by (e ∷ rest) (s ∷ steps) count leads are follows = not_none s.visits s.input (inputs_of steps) count are

  pub unfinished_both : (n : ℕ) (x : Followers) (now : State) → CanGo irq.flow irq.tree x.main now → SoFar irq fiq start inputs n x now → length inputs ≤ n → n ≤ length inputs → (a : ℕ) → a ≡ address_in now.regs → IsStrayedVisited irq fiq start inputs n a (InMain Unfinished) now
  unfinished_both n x now can so_far past few a here = record {
    none = none_left n x now can so_far past;
    ends_at = there_at n x now so_far a here;
    is = (omega (arith, past, few), (place_in irq.flow irq.tree x.main.number, comes_to n x now so_far can few));
  }

  -- the machine is not at the entry
  back_there : (s : State) (visits : List Visit) (after : State) → AreVisits (KeepsFiq irq fiq) irq.flow.profile s visits after → address_in after.regs ≡ address_in s.regs
  back_there s [] after are = ap (λ (x : State). address_in x.regs) are
  back_there s (v ∷ visits) after are = back_there are.0 visits after are.2 ∙ are.1.back

  none_there : (address_in start.regs ≢ irq.stated.entry) → KeepsBothNever irq fiq start inputs
  none_there other m main is keeps = by_walk keeps.walk main keeps.complete keeps.follows
    where
      entry : irq.flow.entry ≡ At [] irq.stated.entry
      entry = handler.graph_is.entry_is

      same_address : (c d : List ℕ) (a b : ℕ) → At c a ≡ At d b → a ≡ b
      same_address c d a b at = cc

      by_walk : (walk : List Edge) (steps : List MainStep) → Leads edge_shape (HasEdge irq.flow) irq.flow.entry walk Exit → FollowsVisited (KeepsFiq irq fiq) irq.flow.profile irq.words irq.stated start steps walk → ⊥
      by_walk [] steps leads follows = no_exit irq.flow.entry [] irq.stated.entry entry leads
      by_walk (e ∷ walk) [] leads follows = follows
      by_walk (e ∷ walk) (s ∷ steps) leads follows =
          other
          (sym (back_there start s.visits follows.0 follows.1)
          ∙ same_address follows.2.2.calls [] (address_in (follows.0).regs) irq.stated.entry (sym follows.2.2.taken.from ∙ leads.1 ∙ entry))

  pub not_at_entry : (a : ℕ) → a ≡ address_in start.regs → (address_in start.regs ≢ irq.stated.entry) → IsStrayedVisited irq fiq start inputs 0 a (InMain NotAtEntry) start
  not_at_entry a here other = record {
    none = none_there other;
    ends_at = record {
      ran = record { steps = 0; ticks = 0; elapsed = 0; stopped = None };
      now = start;
      runs = subst (λ (is : List Input). Runs start is (record { steps = 0; ticks = 0; elapsed = 0; stopped = None }) start) (sym (take_none inputs)) (refl, refl);
      at_is = here;
    };
    is = (refl, refl, other);
  }
