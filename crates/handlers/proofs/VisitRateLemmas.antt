-- Where FIQ is taken at most once in so many ticks, there are no more visits than the fewest that are enough.
use Rattle.std.proofs.Common.{◌≡◌, ℕ, ◌+◌, ◌*◌, ◌<◌, ◌≤◌, suc, List, [], ◌∷◌, ◌++◌, length, None, refl, sym}
use Rattle.std.proofs.Common.{ap, subst, arith}
use Rattle.std.proofs.Math.Nat.{mul-le-mul_right, suc-mul}
use Rattle.std.proofs.lemmas.List.Sums.{sum_by-cons}
use Rattle.bus_ticks.specs.declared.profile.Profile.{Profile}
use Rattle.bus_ticks.specs.Worst.{fiq_entry, fiq_entry_price}
use Rattle.bus_ticks.proofs.EntryLemmas.{fiq_entry_greatest}
use Rattle.image.specs.Image.{Words}
use Rattle.walks.specs.Walk.{cost_of}
use Rattle.arm2_effect.specs.declared.exceptions.Vector.TheVariants.{Fiq}
use Rattle.arm2_effect.specs.declared.step_end.Kind.TheVariants.{Taken}
use Rattle.arm2_exec.specs.Kept.{interrupted_in}
use Rattle.arm2_exec.specs.Run.{Ends, Runs, at_rest, counted, why_stopped}
use Rattle.arm2_exec.specs.State.{State}
use Rattle.arm2_exec.specs.Step.{Step, address_in}
use Rattle.arm2_exec.specs.declared.machine.Input.{Input}
use Rattle.arm2_exec.specs.declared.machine.Ran.{Ran}
use Rattle.arm2_exec.specs.declared.machine.Stepped.{Stepped}
use Rattle.arm2_exec.proofs.TakenLemmas.{fiq_costs}
use Rattle.control_flow.specs.Flow.{Flow, edge_shape}
use Rattle.control_flow.specs.declared.edges.Edge.{Edge}
use Rattle.control_flow.proofs.EdgeLemmas.{leaves}
use Rattle.flow_graph.specs.StepLaw.{Follows, IsEdgeOf}
use Rattle.flow_graph.proofs.StepLemmas.{cost, goes_on}
use Rattle.statement.specs.Stated.{Stated}
use Rattle.loop_bounds.specs.Bounds.{IsGreatestCost}
use Rattle.longest_walk.specs.Visits.{visits_bound}
use Rattle.kept_runs.specs.Visited.{AreVisits, FollowsVisited, IsVisit, MainStep, Visit, inputs_of}
use Rattle.kept_runs.specs.Visited.{visits_before, visits_of}
use Rattle.handlers.specs.Keeping.{KeepsStatement}
use Rattle.handlers.specs.Visits.{AreEnoughVisits, BoundsRunsEvery, IsTakenEvery, TakesFiq, fiqs_of}
use Rattle.handlers.proofs.FewestLemmas.{not_enough}
use Rattle.handlers.proofs.VisitLemmas.{bounds_visited}

-- ## One step before others

pub goes_before : (s : State) (i : Input) (rest : List Input) (stepped : Stepped) (next : State) (more : Ran)
    (after : State) → Step s i stepped next → why_stopped stepped.kind ≡ None → Runs next rest more after
    → Runs s (i ∷ rest) (counted s.profile.burst i stepped more) after
goes_before s i rest stepped next more after step on runs = (
  stepped,
  next,
  step,
  subst (λ w. Ends w s (counted s.profile.burst i stepped more) after ((r : Ran) × Runs next rest r after
      × (counted s.profile.burst i stepped more ≡ counted s.profile.burst i stepped r))) (sym on)
      (more, runs, refl),
)

-- a step that takes FIQ comes so many ticks later
abbrev pub later : (s : State) (i : Input) (rest : List Input) (stepped : Stepped) (next : State)
    → Step s i stepped next → why_stopped stepped.kind ≡ None → TakesFiq next rest → TakesFiq s (i ∷ rest)
later s i rest stepped next step on x = record {
  before = i ∷ x.before;
  taking = x.taking;
  rest = x.rest;
  inputs_are = ap (λ (is : List Input). i ∷ is) x.inputs_are;
  ran = counted s.profile.burst i stepped x.ran;
  now = x.now;
  runs = goes_before s i x.before stepped next x.ran x.now step on x.runs;
  goes_on = x.goes_on;
  earlier = fiqs_of stepped.kind + x.earlier;
  earlier_are = (stepped, next, step, (x.earlier, x.earlier_are, refl));
  stepped = x.stepped;
  entered = x.entered;
  step = x.step;
  takes_fiq = x.takes_fiq;
}

-- the first step takes FIQ
abbrev pub at_once : (s : State) (i : Input) (rest : List Input) (stepped : Stepped) (next : State)
    → Step s i stepped next → stepped.kind ≡ Taken Fiq → TakesFiq s (i ∷ rest)
at_once s i rest stepped next step taken = record {
  before = [];
  taking = i;
  rest = rest;
  inputs_are = refl;
  ran = at_rest None;
  now = s;
  runs = (refl, refl);
  goes_on = refl;
  earlier = 0;
  earlier_are = refl;
  stepped = stepped;
  entered = next;
  step = step;
  takes_fiq = taken;
}

-- ## What is left of a run

module _ (every waited : ℕ) where
  -- What is left after so many ticks, in which FIQ was taken so many times or more: a step that takes it
  -- comes no earlier than so many stretches are over, with those before it, but for the ticks that it may
  -- have waited.
  pub record IsLeft (s : State) (inputs : List Input) (ticks visits : ℕ) : Type 0 where
    pub since : (x : TakesFiq s inputs) → (visits + x.earlier) * every ≤ ticks + x.ran.ticks + waited

  pub begins : (s : State) (inputs : List Input) → IsTakenEvery every waited s inputs → IsLeft s inputs 0 0
  begins s inputs taken = record { since = λ x. let h = taken x in omega (arith, h) }

  counted_step : (s : State) (i : Input) (rest : List Input) (stepped : Stepped) (next : State)
      (ticks visits : ℕ) → Step s i stepped next → why_stopped stepped.kind ≡ None
      → IsLeft s (i ∷ rest) ticks visits
      → IsLeft next rest (ticks + stepped.ticks) (visits + fiqs_of stepped.kind)
  counted_step s i rest stepped next ticks visits step on left = record {
    since = λ x.
        let n = fiqs_of stepped.kind in
        let same : visits + (n + x.earlier) ≡ visits + n + x.earlier = omega arith in
        let h : (visits + (n + x.earlier)) * every ≤ ticks + (stepped.ticks + x.ran.ticks) + waited =
        left.since (later s i rest stepped next step on x) in
        let there : (visits + n + x.earlier) * every ≤ ticks + (stepped.ticks + x.ran.ticks) + waited =
        subst (λ k. k * every ≤ ticks + (stepped.ticks + x.ran.ticks) + waited) same h in
        omega (arith, there);
  }

  fewer : (s : State) (inputs : List Input) (ticks visits more : ℕ) → visits ≤ more
      → IsLeft s inputs ticks more → IsLeft s inputs ticks visits
  fewer s inputs ticks visits more le left = record {
    since = λ x.
        let h = left.since x in
        let few : (visits + x.earlier) * every ≤ (more + x.earlier) * every =
        mul-le-mul_right every (let e : visits + x.earlier ≤ more + x.earlier = omega (arith, le) in e) in
        omega (arith, h, few);
  }

  one_step : (s : State) (i : Input) (rest : List Input) (stepped : Stepped) (next : State) (ticks visits : ℕ)
      → Step s i stepped next → why_stopped stepped.kind ≡ None → IsLeft s (i ∷ rest) ticks visits
      → IsLeft next rest (ticks + stepped.ticks) visits
  one_step s i rest stepped next ticks visits step on left =
      fewer next rest (ticks + stepped.ticks) visits (visits + fiqs_of stepped.kind) (omega arith)
      (counted_step s i rest stepped next ticks visits step on left)

  taking_step : (s : State) (i : Input) (rest : List Input) (stepped : Stepped) (next : State)
      (ticks visits : ℕ) → Step s i stepped next → stepped.kind ≡ Taken Fiq → IsLeft s (i ∷ rest) ticks visits
      → IsLeft next rest (ticks + stepped.ticks) (suc visits)
  taking_step s i rest stepped next ticks visits step taken left =
      let one : fiqs_of stepped.kind ≡ 1 = ap fiqs_of taken in
      fewer next rest (ticks + stepped.ticks) (suc visits) (visits + fiqs_of stepped.kind)
      (omega (arith, one))
      (counted_step s i rest stepped next ticks visits step (ap why_stopped taken) left)

  record IsLeftWithin (most : ℕ) (s : State) (inputs : List Input) (ticks visits : ℕ) : Type 0 where
    more : ℕ
    few : more ≤ most
    left : IsLeft s inputs (ticks + more) visits

  -- steps along a walk
  along : (words : Words) (st : Stated) (profile : Profile) (s : State) (inputs rest : List Input)
      (walk : List Edge) (front : Ran) (mid : State) (ticks visits : ℕ)
      → Follows words st profile s inputs walk → Runs s inputs front mid
      → IsLeft s (inputs ++ rest) ticks visits → IsLeftWithin (cost_of edge_shape walk) mid rest ticks visits
  along words st profile s [] rest [] front mid ticks visits follows runs left = record {
    more = 0;
    few = omega arith;
    left = subst (λ n. IsLeft n rest (ticks + 0) visits) (sym runs.1)
        (record { since = λ x. let h = left.since x in omega (arith, h) });
  }
  along words st profile s [] rest (e ∷ walk) front mid ticks visits follows runs left = absurd follows
  along words st profile s (i ∷ inputs) rest [] front mid ticks visits follows runs left = absurd follows
  along words st profile s (i ∷ inputs) rest (e ∷ walk) front mid ticks visits follows runs left =
      let stepped : Stepped = follows.0 in
      let next : State = follows.1 in
      let edge : IsEdgeOf words st profile s i stepped next e = follows.2 in
      let plain : why_stopped stepped.kind ≡ None = ap why_stopped edge.executes.plain in
      let on = goes_on s i inputs front mid stepped next edge.executes.step plain runs in
      let first = one_step s i (inputs ++ rest) stepped next ticks visits edge.executes.step plain left in
      let last =
      along words st profile next inputs rest walk on.0 mid (ticks + stepped.ticks) visits follows.3 on.1
      first in
      let le : stepped.ticks ≤ e.cost = cost words st profile s i stepped next e edge in
      let whole : ticks + stepped.ticks + last.more ≡ ticks + (stepped.ticks + last.more) = omega arith in
      record {
        more = stepped.ticks + last.more;
        few = omega (arith, le, last.few, sum_by-cons (λ (x : Edge). x.cost) e walk);
        left = subst (λ n. IsLeft mid rest n visits) whole last.left;
      }

-- an edge that a step is along costs something
pub some_cost : (words : Words) (st : Stated) (profile : Profile) (s : State) (i : Input) (stepped : Stepped)
    (next : State) (e : Edge) → IsEdgeOf words st profile s i stepped next e → 1 ≤ e.cost
some_cost words st profile s i stepped next e is =
    let edge = is.taken.is_edge in
    let some = (leaves words st profile e.from edge.0 e edge.1 edge.2).some in
    omega (arith, some)

-- ## Visits

-- the steps are along a walk of at most so many ticks
pub record GoesWithin (words : Words) (st : Stated) (profile : Profile) (most : ℕ) (s : State)
    (inputs : List Input) : Type 0 where
  pub walk : List Edge
  pub follows : Follows words st profile s inputs walk
  pub within : cost_of edge_shape walk ≤ most

-- by which inputs a run keeps the statement of FIQ's handler, which takes at most so many ticks; and the
-- ticks of what it interrupts, for which so many visits are enough
module _ (fiq_words : Words) (fiq : Stated) (profile : Profile) (fiq_bound : ℕ) (Keeps : State → List Input
    → Type 0) (goes : (s : State) (inputs : List Input) → Keeps s inputs
    → GoesWithin fiq_words fiq profile fiq_bound s inputs)
    (bound every waited fewest : ℕ) (some : 1 ≤ bound)
    (enough : AreEnoughVisits profile bound fiq_bound every waited fewest) where
  abbrev price : ℕ
  price = fiq_bound + fiq_entry profile

  in_memory : (s : State) → address_in s.regs < 0x4000000
  in_memory s = omega arith

  takes_within : (s : State) (v : Visit) (after : State) (is : IsVisit Keeps profile s v after)
      → is.stepped.ticks ≤ fiq_entry profile
  takes_within s v after is =
      let ticks : is.stepped.ticks ≡ fiq_entry_price s.profile (interrupted_in s) =
      fiq_costs s v.taking is.stepped is.entered is.step is.takes_fiq in
      let paid : fiq_entry_price s.profile (interrupted_in s) ≡ fiq_entry_price profile (interrupted_in s) =
      ap (λ (p : Profile). fiq_entry_price p (interrupted_in s)) is.prices in
      let most = (fiq_entry_greatest profile (fiq_entry profile) refl).none_above (interrupted_in s)
      (record { below = in_memory s; is_of = tt }) in
      omega (arith, ticks, paid, most)

  -- What is left after so many visits, no more than are enough. With the ticks that are left to what FIQ
  -- interrupts at most, the ticks so far are within its bound and the visits.
  pub record AreSoFar (s : State) (inputs : List Input) (own visits : ℕ) : Type 0 where
    pub ticks : ℕ
    pub left : IsLeft every waited s inputs ticks visits
    pub within : ticks + own ≤ bound + visits * price
    pub few : visits ≤ fewest

  pub at_first : (s : State) (inputs : List Input) (own : ℕ) → own ≤ bound
      → IsTakenEvery every waited s inputs → AreSoFar s inputs own 0
  at_first s inputs own le taken = record {
    ticks = 0;
    left = begins every waited s inputs taken;
    within = omega (arith, le);
    few = omega arith;
  }

  -- with fewer ticks that are left
  pub less : (s : State) (inputs : List Input) (own fewer visits : ℕ) → fewer ≤ own
      → AreSoFar s inputs own visits → AreSoFar s inputs fewer visits
  less s inputs own fewer visits le far =
      record { ticks = far.ticks; left = far.left; within = omega (arith, far.within, le); few = far.few }

  -- a step of at most so many ticks
  pub far_step : (s : State) (i : Input) (rest : List Input) (stepped : Stepped) (next : State)
      (most own visits : ℕ) → Step s i stepped next → why_stopped stepped.kind ≡ None → stepped.ticks ≤ most
      → AreSoFar s (i ∷ rest) (most + own) visits → AreSoFar next rest own visits
  far_step s i rest stepped next most own visits step on le far = record {
    ticks = far.ticks + stepped.ticks;
    left = one_step every waited s i rest stepped next far.ticks visits step on far.left;
    within = omega (arith, far.within, le);
    few = far.few;
  }

  a_visit : (s : State) (v : Visit) (rest : List Input) (next : State) (own visits : ℕ) → 1 ≤ own
      → IsVisit Keeps profile s v next → AreSoFar s (v.taking ∷ (v.handling ++ rest)) own visits
      → AreSoFar next rest own (suc visits)
  a_visit s v rest next own visits some_own is far =
      let here = at_once s v.taking (v.handling ++ rest) is.stepped is.entered is.step is.takes_fiq in
      let same : visits + 0 ≡ visits = omega arith in
      let since : (visits + 0) * every ≤ far.ticks + 0 + waited = far.left.since here in
      let now : visits * every ≤ far.ticks + 0 + waited =
      subst (λ n. n * every ≤ far.ticks + 0 + waited) same since in
      let all : bound + waited + fewest * price ≤ fewest * every = omega (arith, enough) in
      let one_more = not_enough price (bound + waited) every fewest visits (omega (arith, some)) all
      (omega (arith, now, far.within, some_own)) in
      let taken =
      taking_step every waited s v.taking (v.handling ++ rest) is.stepped is.entered far.ticks visits
      is.step is.takes_fiq far.left in
      let gone = goes is.entered v.handling is.keeps in
      let handled = along every waited fiq_words fiq profile is.entered v.handling rest gone.walk is.ran next
      (far.ticks + is.stepped.ticks) (suc visits) gone.follows is.runs taken in
      let entry = takes_within s v next is in
      record {
        ticks = far.ticks + is.stepped.ticks + handled.more;
        left = handled.left;
        within = omega (arith, far.within, entry, gone.within, handled.few, suc-mul visits price);
        few = one_more;
      }

  pub all_visits : (s : State) (vs : List Visit) (rest : List Input) (visited : State) (own visits : ℕ)
      → 1 ≤ own → AreVisits Keeps profile s vs visited → AreSoFar s (visits_before vs rest) own visits
      → AreSoFar visited rest own (visits + length vs)
  all_visits s [] rest visited own visits some_own are far =
      let same : visits ≡ visits + 0 = omega arith in
      subst (AreSoFar visited rest own) same (subst (λ n. AreSoFar n rest own visits) (sym are) far)
  all_visits s (v ∷ vs) rest visited own visits some_own are far =
      let same : suc visits + length vs ≡ visits + length (v ∷ vs) = omega arith in
      subst (AreSoFar visited rest own) same
      (all_visits are.0 vs rest visited own (suc visits) some_own are.2
      (a_visit s v (visits_before vs rest) are.0 own visits some_own are.1 far))

  -- ## Main steps

  module _ (irq_words : Words) (irq : Stated) where
    pub few_visits : (s : State) (steps : List MainStep) (walk : List Edge) (visits : ℕ)
        → FollowsVisited Keeps profile irq_words irq s steps walk
        → AreSoFar s (inputs_of steps) (cost_of edge_shape walk) visits
        → visits + visits_of steps ≤ fewest
    few_visits s [] [] visits follows far = let few = far.few in omega (arith, few)
    few_visits s [] (e ∷ walk) visits follows far = absurd follows
    few_visits s (m ∷ steps) [] visits follows far = absurd follows
    few_visits s (m ∷ steps) (e ∷ walk) visits follows far =
        let visited : State = follows.0 in
        let stepped : Stepped = follows.2.0 in
        let next : State = follows.2.1 in
        let edge : IsEdgeOf irq_words irq profile visited m.input stepped next e = follows.2.2 in
        let walked : cost_of edge_shape (e ∷ walk) ≡ e.cost + cost_of edge_shape walk =
        sum_by-cons (λ (x : Edge). x.cost) e walk in
        let some_edge = some_cost irq_words irq profile visited m.input stepped next e edge in
        let split : AreSoFar s (inputs_of (m ∷ steps)) (e.cost + cost_of edge_shape walk) visits =
        subst (λ n. AreSoFar s (inputs_of (m ∷ steps)) n visits) walked far in
        let all = all_visits s m.visits (m.input ∷ inputs_of steps) visited (e.cost + cost_of edge_shape walk)
        visits (omega (arith, some_edge)) follows.1 split in
        let step = far_step visited m.input (inputs_of steps) stepped next e.cost (cost_of edge_shape walk)
        (visits + length m.visits) edge.executes.step (ap why_stopped edge.executes.plain)
        (cost irq_words irq profile visited m.input stepped next e edge) all in
        let rest = few_visits next steps walk (visits + length m.visits) follows.2.3 step in
        omega (arith, rest, sum_by-cons (λ (x : MainStep). length x.visits) m steps)

-- ## The bound

module _ (irq_words fiq_words : Words) (fiq : Stated) (profile : Profile) (fiq_flow : Flow) (fiq_bound : ℕ)
    (greatest : IsGreatestCost fiq_flow fiq.loops fiq_bound) where
  abbrev Keeps : State → List Input → Type 0
  Keeps = KeepsStatement fiq_words fiq profile fiq_flow

  kept_within : (s : State) (inputs : List Input) → Keeps s inputs
      → GoesWithin fiq_words fiq profile fiq_bound s inputs
  kept_within s inputs keeps =
      record {
        walk = keeps.walk;
        follows = keeps.follows;
        within = greatest.upper keeps.walk keeps.complete keeps.kept;
      }

  module _ (irq : Stated) (irq_flow : Flow) (bound every waited fewest : ℕ)
      (most : IsGreatestCost irq_flow irq.loops bound)
      (enough : AreEnoughVisits profile bound fiq_bound every waited fewest) where
    are_few : (s : State) (steps : List MainStep) (walk : List Edge)
        → FollowsVisited Keeps profile irq_words irq s steps walk → cost_of edge_shape walk ≤ bound
        → IsTakenEvery every waited s (inputs_of steps)
        → visits_of steps ≤ fewest
    are_few s [] walk follows within taken = omega arith
    are_few s (m ∷ steps) [] follows within taken = absurd follows
    are_few s (m ∷ steps) (e ∷ walk) follows within taken =
        let some_edge =
        some_cost irq_words irq profile follows.0 m.input follows.2.0 follows.2.1 e follows.2.2 in
        let some : 1 ≤ bound = omega (arith, within, some_edge, sum_by-cons (λ (x : Edge). x.cost) e walk) in
        let few = few_visits fiq_words fiq profile fiq_bound Keeps kept_within bound every waited fewest some
        enough irq_words irq s (m ∷ steps) (e ∷ walk) 0 follows
        (at_first fiq_words fiq profile fiq_bound Keeps kept_within bound every waited fewest some enough s
        (inputs_of (m ∷ steps)) (cost_of edge_shape (e ∷ walk)) within taken) in
        omega (arith, few)

    pub bounds_every : BoundsRunsEvery irq_words fiq_words fiq profile fiq_flow irq irq_flow every waited
        (visits_bound profile bound fiq_bound fewest)
    bounds_every s steps ran after keeps taken runs =
        let within : cost_of edge_shape keeps.walk ≤ bound =
        most.upper keeps.walk keeps.complete keeps.kept in
        bounds_visited irq_words fiq_words fiq profile fiq_flow fiq_bound
        (fiq_entry_greatest profile (fiq_entry profile) refl) greatest irq irq_flow bound fewest most s
        steps ran after keeps
        (are_few s steps keeps.walk keeps.follows within taken) runs
