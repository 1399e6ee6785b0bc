-- The step law, and that of whole runs.
use Rattle.std.proofs.Common.{◌≡◌, ℕ, ◌+◌, ◌*◌, ◌^◌, ◌<◌, ◌≤◌, ◌⊎◌, inl, inr, Bool, true, false, cond, List, [], ◌∷◌, length, Option, Some, None, refl, sym, ap, subst, ◌∙◌, arith}
use Rattle.std.proofs.Math.Nat.{mul-add}
use Rattle.std.proofs.lemmas.Bool.{cases_lt, false≢true}
use Rattle.std.proofs.lemmas.List.Sums.{sum_by-cons}
use Rattle.bus_ticks.specs.declared.profile.Class.{Class}
use Rattle.bus_ticks.specs.declared.profile.Profile.{Profile}
use Rattle.bus_ticks.specs.declared.profile.RomTimes.{RomTimes}
use Rattle.image.specs.Image.{Words}
use Rattle.walks.specs.Walk.{cost_of}
use Rattle.arm2_decode.specs.Table.{Means}
use Rattle.arm2_decode.specs.declared.instr.Instr.{Instr}
use Rattle.arm2_decode.specs.declared.instr.Unallocated.{Unallocated}
use Rattle.arm2_effect.specs.declared.step_end.Kind.TheVariants as ended
use Rattle.arm2_effect.specs.declared.step_end.Why.TheVariants as why
use Rattle.arm2_effect.specs.declared.exceptions.Vector.{Vector}
use Rattle.arm2_effect.specs.Effects.{is_stopped, skipped, stopped, ticks_of}
use Rattle.arm2_effect.specs.Exceptions.{taken}
use Rattle.arm2_effect.specs.Modes.{r15_in}
use Rattle.arm2_transfer.specs.declared.bus.Bus.{Bus}
use Rattle.arm2_transfer.specs.Moved.{Moved, on_bus}
use Rattle.arm2_transfer.specs.Operations.{operation_moved}
use Rattle.arm2_exec.specs.declared.machine.Input.{Input}
use Rattle.arm2_exec.specs.declared.machine.Ran.{Ran}
use Rattle.arm2_exec.specs.declared.machine.Stepped.{Stepped}
use Rattle.arm2_exec.specs.Run.{Ends, Runs, at_rest, counted, why_stopped}
use Rattle.arm2_exec.specs.State.{State}
use Rattle.arm2_exec.specs.Step.{Obeys, ObeysFetched, Step, Works, address_in, answer_of, fetched, instruction_moved, interrupt_due, ticks_in, unallocated_moved, with_lines}
use Rattle.arm2_exec.proofs.StepLemmas.{one_step}
use Rattle.control_flow.specs.Edges.{HasAction, do_ticks, do_edge, may_do, may_go, passing_ticks, skip_edge, stated_work, word_edges}
use Rattle.control_flow.specs.Flow.{edge_shape}
use Rattle.control_flow.specs.Graph.{IsReached, IsTooDeep, makes_call}
use Rattle.control_flow.specs.Kinds.{IsAction, instr_action, kind_of, unallocated_action, work_of}
use Rattle.flow_graph.specs.StepLaw.{Executes, Follows, IsAccepted, IsEdgeOf, IsPlaceOf, IsTaken, IsWithin, RunLaw, StepCost, StepLaw, WritesElsewhere, bursts_of, holds_in}
use Rattle.control_flow.specs.declared.edges.Edge.{Edge}
use Rattle.control_flow.specs.declared.edges.Label.TheVariants.{Skip, Do}
use Rattle.control_flow.specs.declared.faults.BuildFault.TheVariants as fault
use Rattle.control_flow.specs.declared.actions.Action.{Action}
use Rattle.control_flow.specs.declared.actions.Kind.{Kind}
use Rattle.control_flow.specs.declared.actions.Kind.TheVariants as kind
use Rattle.control_flow.specs.declared.actions.Work.{Work}
use Rattle.control_flow.specs.declared.actions.Work.TheVariants as work
use Rattle.control_flow.specs.declared.places.Place.{Place}
use Rattle.control_flow.specs.declared.places.Place.TheVariants.{At}
use Rattle.statement.specs.Stated.{Stated, class_at, taken_at, target_of}
use Rattle.control_flow.proofs.EdgeLemmas.{among_edges, one_action}
use Rattle.control_flow.proofs.LabelLemmas.{Which, do_among, skip_among, which_edge}
use Rattle.flow_graph.proofs.StepEdges.{Lands, arrives, lands}
use Rattle.flow_graph.proofs.StepOperations.{MovedCosts, either_done, operation_costs, skipped_costs, stopped_costs}
use Rattle.flow_graph.proofs.StepRegisters.{word_address_of}
use Rattle.flow_graph.proofs.StepTicks.{Costs, fetch_stated}
use Rattle.control_flow.proofs.WorkLemmas.{action_fits}

-- ## What a plain step reports

pub record IsPlainStep (s : State) (m : Moved) (stepped : Stepped) : Type 0 where
  pub kind : m.kind ≡ ended.Plain
  pub ticks : stepped.ticks ≡ ticks_in s m
  pub to : stepped.to ≡ address_in m.regs

-- the answer of a step, by whether it stopped
abbrev pub answer_by : Bool → State → Moved → Stepped
answer_by stops s m =
    cond stops (record { kind = m.kind; ticks = 0; from = address_in s.regs; to = address_in s.regs }) (record { kind = m.kind; ticks = ticks_in s m; from = address_in s.regs; to = address_in m.regs })

plain_by : (stops : Bool) (s : State) (m : Moved) (stepped : Stepped) → is_stopped m.kind ≡ stops → stepped ≡ answer_by stops s m → stepped.kind ≡ ended.Plain → IsPlainStep s m stepped
plain_by true s m stepped e is plain =
    let same : stepped.kind ≡ m.kind = ap (λ (t : Stepped). t.kind) is in
    let goes_on : is_stopped m.kind ≡ false = ap is_stopped (sym same ∙ plain) in
    absurd (false≢true (sym goes_on ∙ e))
plain_by false s m stepped e is plain = record {
  kind = sym (ap (λ (t : Stepped). t.kind) is) ∙ plain;
  ticks = ap (λ (t : Stepped). t.ticks) is;
  to = ap (λ (t : Stepped). t.to) is;
}

pub plain_step : (s : State) (m : Moved) (stepped : Stepped) → stepped ≡ answer_of s m → stepped.kind ≡ ended.Plain → IsPlainStep s m stepped
unfolding answer_of
plain_step s m stepped is plain = plain_by (is_stopped m.kind) s m stepped refl is plain

-- no interrupt was taken
pub works_plain : (due : Option Vector) (port : ℕ) (regs : List ℕ) (bus : Bus) (m : Moved) → Works due port regs bus m → m.kind ≡ ended.Plain → ObeysFetched (fetched bus.memc (r15_in regs)) port regs bus m
unfolding taken
works_plain None port regs bus m works plain = works
works_plain (Some vector) port regs bus m works plain =
    let interrupted : m.kind ≡ ended.Taken vector = ap (λ (x : Moved). x.kind) works in
    let both : ended.Taken vector ≡ ended.Plain = sym interrupted ∙ plain in
    absurd (cc)

-- ## What the word does

-- the kind and the stated work of a word that is done, or those of one that is passed over
abbrev kind_by : Bool → Action → Kind
kind_by holds action = cond holds action.kind kind.Plain

abbrev work_by : Stated → ℕ → Bool → Action → Work
work_by st a holds action = cond holds (stated_work st a action.work) (work.Internal 0)

module _ (st : Stated) (p : Profile) (rom : RomTimes) (class : Class) (regs : List ℕ) (long : 26 < length regs) where
  abbrev ActionCosts : Action → Moved → Type 0
  ActionCosts action m = MovedCosts st p rom class regs long (kind_by (holds_in regs action.cond) action) (work_by st (address_in regs) (holds_in regs action.cond) action) m

  instr_costs : (word : ℕ) (i : Instr) (port : ℕ) (bus : Bus) → Means word i → ActionCosts (instr_action i) (instruction_moved i port regs bus)
  instr_costs word i port bus means =
      either_done st p rom class regs long (holds_in regs i.cond) (kind_of i.operation) (stated_work st (address_in regs) (work_of i.operation)) (operation_moved i.operation port regs bus) (on_bus bus (skipped regs))
      (operation_costs st p rom class regs long i.operation port bus (action_fits word (instr_action i) (inl (i, means, refl))))
      (skipped_costs st p rom class regs long bus)

  unallocated_costs : (u : Unallocated) (bus : Bus) → ActionCosts (unallocated_action u) (unallocated_moved u regs bus)
  unallocated_costs u bus =
      either_done st p rom class regs long (holds_in regs u.cond) kind.Unallocated (stated_work st (address_in regs) (work.Internal 0)) (on_bus bus (stopped why.Unallocated regs)) (on_bus bus (skipped regs))
      (stopped_costs st p rom class regs long kind.Unallocated (stated_work st (address_in regs) (work.Internal 0)) why.Unallocated bus)
      (skipped_costs st p rom class regs long bus)

  obeys_costs : (word : ℕ) (action : Action) (port : ℕ) (bus : Bus) (m : Moved) → IsAction word action → Obeys word port regs bus m → ActionCosts action m
  obeys_costs word action port bus m is (inl (i, means, e)) =
      subst (λ a. ActionCosts a m) (one_action word (instr_action i) action (inl (i, means, refl)) is)
      (subst (ActionCosts (instr_action i)) (sym e) (instr_costs word i port bus means))
  obeys_costs word action port bus m is (inr (u, none, e)) =
      subst (λ a. ActionCosts a m) (one_action word (unallocated_action u) action (inr (u, none, refl)) is)
      (subst (ActionCosts (unallocated_action u)) (sym e) (unallocated_costs u bus))

-- ## The edges that a step can take

-- the edge of a step is one of its word's
pub which_taken : (words : Words) (st : Stated) (profile : Profile) (calls : List ℕ) (action : Action) (s : State) (stepped : Stepped) → HasAction words (address_in s.regs) action
    → (e : Edge) → IsTaken words st profile calls action s stepped e → Which st profile calls (address_in s.regs) action e
which_taken words st profile calls action s stepped has e taken =
    which_edge st profile calls (address_in s.regs) action e
    (among_edges words st profile (At calls (address_in s.regs)) (word_edges st profile calls (address_in s.regs) action) e (action, has, refl) taken.is_edge taken.from)

module _ (words : Words) (st : Stated) (profile : Profile) (calls : List ℕ) (action : Action) (s : State) (i : Input) (stepped : Stepped) (after : State) (h : Executes words st profile action s i stepped after) where
  -- what the step costs, and where it goes
  abbrev StepCosts : Bool → Type 0
  StepCosts holds = Costs profile s.bus.memc.control.rom_times (class_at st (address_in s.regs) action.base) (address_in s.regs) (kind_by holds action) (work_by st (address_in s.regs) holds action) h.step.moved.accesses stepped.to

  plain_is : IsPlainStep s h.step.moved stepped
  plain_is = plain_step s h.step.moved stepped h.step.stepped_is h.plain

  small : stepped.to < 2 ^ 26
  small = subst (λ t. t < 2 ^ 26) (sym plain_is.to) ((word_address_of (r15_in h.step.moved.regs)).0)

  ticks : stepped.ticks ≡ ticks_of (record { profile = profile; rom = s.bus.memc.control.rom_times }) h.step.moved.accesses
  ticks = plain_is.ticks ∙ ap (λ (p : Profile). ticks_of (record { profile = p; rom = s.bus.memc.control.rom_times }) h.step.moved.accesses) h.prices

  step_costs : StepCosts (holds_in s.regs action.cond)
  step_costs =
      let bus : Bus = with_lines i.lines.0 s.bus in
      let obeyed : ObeysFetched (fetched bus.memc (r15_in s.regs)) i.port s.regs bus h.step.moved = works_plain (interrupt_due bus (r15_in s.regs)) i.port s.regs bus h.step.moved h.step.works (plain_is.kind) in
      let fetches : fetched s.bus.memc (r15_in s.regs) ≡ Some h.has.word = h.fetches ∙ h.has.word_is in
      let obeys : Obeys h.has.word i.port s.regs bus h.step.moved = subst (λ o. ObeysFetched o i.port s.regs bus h.step.moved) fetches obeyed in
      subst (λ t. Costs profile s.bus.memc.control.rom_times (class_at st (address_in s.regs) action.base) (address_in s.regs) (kind_by (holds_in s.regs action.cond) action) (work_by st (address_in s.regs) (holds_in s.regs action.cond) action) h.step.moved.accesses t) (sym plain_is.to)
      (obeys_costs st profile s.bus.memc.control.rom_times (class_at st (address_in s.regs) action.base) s.regs (let n : length s.regs ≡ 27 = h.registers in omega arith)
      h.has.word action i.port bus h.step.moved h.has.is obeys h.transfers h.cycles (plain_is.kind))

  -- ## Each edge of the step

  abbrev IsOne : Edge → Type 0
  IsOne e = Which st profile calls (address_in s.regs) action e

  is_one : (e : Edge) → IsTaken words st profile calls action s stepped e → IsOne e
  is_one = which_taken words st profile calls action s stepped h.has

  ends_at : (p : Place) (e : Edge) → do_edge st profile calls (address_in s.regs) action p ≡ e → IsPlaceOf st.leave stepped.to e.to → IsPlaceOf st.leave stepped.to p
  ends_at p e is to = subst (λ (x : Edge). IsPlaceOf st.leave stepped.to x.to) (sym is) to

  -- the two labels differ
  no_label : (x y : Edge) → x.label ≡ Skip → y.label ≡ Do → x ≡ y → ⊥
  no_label x y skips does same =
      let both : Skip ≡ Do = sym skips ∙ ap (λ (e : Edge). e.label) same ∙ does in
      cc

  cost_by : (holds : Bool) → StepCosts holds → (e : Edge) → IsOne e → e.label ≡ cond holds Do Skip → IsPlaceOf st.leave stepped.to e.to → stepped.ticks ≤ e.cost
  cost_by true costs e (inl skip) label to = absurd (no_label (skip_edge profile calls (address_in s.regs)) e refl label skip)
  cost_by true costs e (inr (p, among, is)) label to =
      let jump = arrives st profile s.bus.memc.control.rom_times (class_at st (address_in s.regs) action.base) (address_in s.regs) action.kind p stepped.to small (ends_at p e is to) in
      let cost : do_ticks st profile (address_in s.regs) action p ≡ e.cost = ap (λ (x : Edge). x.cost) is in
      omega (arith, jump, costs.most, fetch_stated profile st (address_in s.regs) action.work, ticks, cost)
  cost_by false costs e (inl skip) label to =
      let cost : passing_ticks profile (address_in s.regs) ≡ e.cost = ap (λ (x : Edge). x.cost) skip in
      omega (arith, costs.most, ticks, cost)
  cost_by false costs e (inr (p, among, is)) label to = absurd (no_label e (do_edge st profile calls (address_in s.regs) action p) label refl (sym is))

  pub taken_cost : (e : Edge) → IsTaken words st profile calls action s stepped e → stepped.ticks ≤ e.cost
  taken_cost e taken = cost_by (holds_in s.regs action.cond) step_costs e (is_one e taken) taken.label taken.to

  -- ## Some edge of the step

  -- the step's way is one of the word's
  way_by : (holds : Bool) → holds_in s.regs action.cond ≡ holds → may_go (cond holds Do Skip) action.cond (taken_at st (address_in s.regs)) ≡ true
  way_by holds is = subst (λ b. may_go (cond b Do Skip) action.cond (taken_at st (address_in s.regs)) ≡ true) is h.way

  few_calls : IsAccepted words st profile → IsReached words st profile (At calls (address_in s.regs)) → may_do action.cond (taken_at st (address_in s.regs)) ≡ true → (offset : ℕ) → action.kind ≡ kind.Call offset → length calls < 8
  few_calls accepted reached may offset is =
      elim (cases_lt (length calls) 8) [
        | inl few ↦ few
        | inr full ↦
            let calling : makes_call action.kind (target_of st (address_in s.regs)) ≡ true = ap (λ k. makes_call k (target_of st (address_in s.regs))) is in
            let deep : IsTooDeep words st profile = record { calls = calls; address = address_in s.regs; reached = reached; full = full; action = action; has = h.has; is_call = calling; may = may } in
            absurd (accepted fault.TooDeep (λ e. cc) deep)
      ]

  abbrev Conclusion : Type 0
  Conclusion = WritesElsewhere words st profile calls action s stepped ⊎ ((e : Edge) × IsTaken words st profile calls action s stepped e × (stepped.ticks ≤ e.cost))

  takes : (e : Edge) → IsTaken words st profile calls action s stepped e → Conclusion
  takes e taken = inr (e, taken, taken_cost e taken)

  done_by : holds_in s.regs action.cond ≡ true → Lands st calls (address_in s.regs) action.kind stepped.to → Conclusion
  done_by holds (inl (p, among, is)) =
      takes (do_edge st profile calls (address_in s.regs) action p) (record {
        is_edge = (word_edges st profile calls (address_in s.regs) action, (action, h.has, refl), do_among st profile calls (address_in s.regs) action p (way_by true holds) among);
        from = refl;
        label = sym (ap (λ b. cond b Do Skip) holds);
        to = is;
      })
  done_by holds (inr (writer, none)) =
      inl (record {
        writer = writer;
        holds = holds;
        none = λ e taken. elim (is_one e taken) [
          | inl skip ↦ no_label (skip_edge profile calls (address_in s.regs)) e refl (taken.label ∙ ap (λ b. cond b Do Skip) holds) skip
          | inr w ↦ none w.0 w.1 (ends_at w.0 e w.2 taken.to)
        ];
      })

  law_by : (holds : Bool) → holds_in s.regs action.cond ≡ holds → StepCosts holds → IsAccepted words st profile → IsReached words st profile (At calls (address_in s.regs)) → Conclusion
  law_by true holds costs accepted reached =
      done_by holds
      (lands st profile s.bus.memc.control.rom_times (class_at st (address_in s.regs) action.base) calls (address_in s.regs) action.kind stepped.to costs.reaches
      (few_calls accepted reached (way_by true holds)))
  law_by false fails costs accepted reached =
      takes (skip_edge profile calls (address_in s.regs)) (record {
        is_edge = (word_edges st profile calls (address_in s.regs) action, (action, h.has, refl), skip_among st profile calls (address_in s.regs) action (way_by false fails));
        from = refl;
        label = sym (ap (λ b. cond b Do Skip) fails);
        to = sym costs.reaches;
      })

  pub some_edge : IsAccepted words st profile → IsReached words st profile (At calls (address_in s.regs)) → Conclusion
  some_edge = law_by (holds_in s.regs action.cond) refl step_costs

pub law : StepLaw
law words st profile calls action s i stepped after accepted reached h = some_edge words st profile calls action s i stepped after h accepted reached

pub cost : StepCost
cost words st profile s i stepped after e h = taken_cost words st profile h.calls h.action s i stepped after h.executes e h.taken

-- ## Whole runs

-- what a run does whose first step was not stopped
abbrev pub GoesOn : State → Input → List Input → Ran → State → Stepped → State → Type 0
GoesOn s i rest ran after stepped next = (more : Ran) × Runs next rest more after × (ran ≡ counted s.profile.burst i stepped more)

pub goes_on : (s : State) (i : Input) (rest : List Input) (ran : Ran) (after : State) (stepped : Stepped) (next : State)
    → Step s i stepped next → why_stopped stepped.kind ≡ None → Runs s (i ∷ rest) ran after → GoesOn s i rest ran after stepped next
goes_on s i rest ran after stepped next step plain run =
    let same = one_step s i stepped run.0 next run.1 step run.2 in
    let none : why_stopped run.0.kind ≡ None = ap (λ (t : Stepped). why_stopped t.kind) same.0 ∙ plain in
    let on : GoesOn s i rest ran after run.0 run.1 = subst (λ w. Ends w s ran after (GoesOn s i rest ran after run.0 run.1)) none run.3 in
    (on.0, subst (λ n. Runs n rest on.0 after) same.1 on.1, on.2 ∙ ap (λ t. counted s.profile.burst i t on.0) same.0)

module _ (words : Words) (st : Stated) (profile : Profile) where
  one_more : (s : State) (i : Input) (rest : List Input) (stepped : Stepped) (next : State) (e : Edge) (walk : List Edge) (ran more : Ran) → IsEdgeOf words st profile s i stepped next e → ran ≡ counted s.profile.burst i stepped more → IsWithin profile walk rest more → IsWithin profile (e ∷ walk) (i ∷ rest) ran
  one_more s i rest stepped next e walk ran more h is within =
      let step : stepped.ticks ≤ e.cost = cost words st profile s i stepped next e h in
      let burst : s.profile.burst ≡ profile.burst = ap (λ (p : Profile). p.burst) h.executes.prices in
      let ticks : ran.ticks ≡ stepped.ticks + more.ticks = ap (λ (r : Ran). r.ticks) is in
      let elapsed : ran.elapsed ≡ stepped.ticks + s.profile.burst * i.bursts + more.elapsed = ap (λ (r : Ran). r.elapsed) is in
      let paid : s.profile.burst * i.bursts ≡ profile.burst * i.bursts = ap (λ n. n * i.bursts) burst in
      let walked : cost_of edge_shape (e ∷ walk) ≡ e.cost + cost_of edge_shape walk = sum_by-cons (λ (x : Edge). x.cost) e walk in
      let bursts : bursts_of (i ∷ rest) ≡ i.bursts + bursts_of rest = sum_by-cons (λ (x : Input). x.bursts) i rest in
      let all : profile.burst * bursts_of (i ∷ rest) ≡ profile.burst * i.bursts + profile.burst * bursts_of rest = ap (λ n. profile.burst * n) bursts ∙ mul-add profile.burst i.bursts (bursts_of rest) in
      record {
        ticks = omega (arith, step, ticks, walked, within.ticks);
        elapsed = omega (arith, step, elapsed, paid, walked, all, within.elapsed);
      }

  run_within : (s : State) (inputs : List Input) (walk : List Edge) (ran : Ran) (after : State) → Runs s inputs ran after → Follows words st profile s inputs walk → IsWithin profile walk inputs ran
  run_within s [] [] ran after run follows =
      let none : ran ≡ at_rest None = run.0 in
      let ticks : ran.ticks ≡ 0 = ap (λ (r : Ran). r.ticks) none in
      let elapsed : ran.elapsed ≡ 0 = ap (λ (r : Ran). r.elapsed) none in
      record { ticks = omega (arith, ticks); elapsed = omega (arith, elapsed) }
  run_within s [] (e ∷ walk) ran after run follows = absurd follows
  run_within s (i ∷ rest) [] ran after run follows = absurd follows
  run_within s (i ∷ rest) (e ∷ walk) ran after run follows =
      let edge : IsEdgeOf words st profile s i follows.0 follows.1 e = follows.2 in
      let on = goes_on s i rest ran after follows.0 follows.1 edge.executes.step (ap why_stopped edge.executes.plain) run in
      one_more s i rest follows.0 follows.1 e walk ran on.0 edge on.2 (run_within follows.1 rest walk on.0 after on.1 follows.3)

pub run_law : RunLaw
run_law words st profile s inputs walk ran after run follows = run_within words st profile s inputs walk ran after run follows
