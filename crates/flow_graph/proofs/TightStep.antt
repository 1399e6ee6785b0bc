-- A machine that is set for an edge takes it at exactly its price.
use Rattle.std.proofs.Common.{◌≡◌, ℕ, ◌+◌, ◌*◌, ◌<◌, inl, inr, Bool, true, false, cond}
use Rattle.std.proofs.Common.{Some, length, Option, refl, sym, ap, subst, ◌∙◌, arith}
use Rattle.std.specs.Prelude.{Contains}
use Rattle.std.proofs.lemmas.Bool.{cond-false, cond-true}
use Rattle.bus_ticks.specs.declared.profile.Class.{Class}
use Rattle.bus_ticks.specs.declared.profile.Profile.{Profile}
use Rattle.bus_ticks.specs.declared.profile.RomTimes.{RomTimes}
use Rattle.image.specs.Image.{Words, word_of}
use Rattle.arm2_decode.specs.Table.{Means}
use Rattle.arm2_decode.specs.declared.instr.Instr.{Instr}
use Rattle.arm2_effect.specs.declared.exceptions.Vector.{Vector}
use Rattle.arm2_effect.specs.declared.modes.Mode.TheVariants.{Svc}
use Rattle.arm2_effect.specs.declared.prices.Prices.{Prices}
use Rattle.arm2_effect.specs.declared.step_end.Kind.TheVariants as ended
use Rattle.arm2_effect.specs.Effects.{is_stopped, skipped, ticks_of}
use Rattle.arm2_effect.specs.Modes.{r15_in, is_user}
use Rattle.arm2_effect.specs.ProgramCounter.{mode_of}
use Rattle.arm2_transfer.specs.declared.bus.Bus.{Bus}
use Rattle.arm2_transfer.specs.Moved.{Moved, on_bus}
use Rattle.arm2_transfer.specs.Operations.{operation_moved}
use Rattle.arm2_exec.specs.State.{State}
use Rattle.arm2_exec.specs.Step.{Obeys, ObeysFetched, Works, address_in, answer_of, interrupt_due}
use Rattle.arm2_exec.specs.Step.{state_after, with_lines}
use Rattle.arm2_exec.specs.declared.machine.Input.{Input}
use Rattle.control_flow.specs.Edges.{HasAction, do_edge, do_ticks}
use Rattle.control_flow.specs.Edges.{landings, may_go, passing_ticks, skip_edge, word_edges}
use Rattle.control_flow.specs.Kinds.{IsAction, base_of, instr_action, unallocated_action, kind_of, work_of}
use Rattle.flow_graph.specs.StepLaw.{IsPlaceOf, TakesWithin, TransfersIn, holds_in, label_by, label_in}
use Rattle.flow_graph.specs.Tight.{IsTight}
use Rattle.flow_graph.specs.TightWork.{IsSetFor, IsSetForEdge, TightLaw}
use Rattle.control_flow.specs.declared.edges.Edge.{Edge}
use Rattle.control_flow.specs.declared.edges.Label.TheVariants.{Skip, Do}
use Rattle.control_flow.specs.declared.actions.Action.{Action}
use Rattle.control_flow.specs.declared.actions.Kind.{Kind}
use Rattle.control_flow.specs.declared.places.Place.{Place}
use Rattle.control_flow.specs.declared.places.Place.TheVariants.{At}
use Rattle.statement.specs.Stated.{Stated, class_at, cycles_at, taken_at}
use Rattle.control_flow.proofs.EdgeLemmas.{among_edges, one_action}
use Rattle.control_flow.proofs.LabelLemmas.{not_both, which_edge}
use Rattle.flow_graph.proofs.StepEdges.{edge_goes}
use Rattle.flow_graph.proofs.StepLemmas.{IsPlainStep, answer_by, plain_step}
use Rattle.flow_graph.proofs.StepOperations.{operation_costs, skipped_costs}
use Rattle.flow_graph.proofs.StepTicks.{fetch_stated}
use Rattle.flow_graph.proofs.TightArrivals.{arrives_exactly}
use Rattle.flow_graph.proofs.TightData.{skipped_pays}
use Rattle.flow_graph.proofs.TightOperations.{operation_set, setting}
use Rattle.flow_graph.proofs.TightState.{at_address, flags_are, in_svc, no_interrupt}
use Rattle.flow_graph.proofs.TightTicks.{takes_within, transfers_in}
use Rattle.control_flow.proofs.WorkLemmas.{action_fits}

-- ## What the step reports

kind_kept : (stops : Bool) (s : State) (m : Moved) → (answer_by stops s m).kind ≡ m.kind
kind_kept true s m = refl
kind_kept false s m = refl

kind_of_answer : (s : State) (m : Moved) → (answer_of s m).kind ≡ m.kind
unfolding answer_of
kind_of_answer s m = kind_kept (is_stopped m.kind) s m

-- ## The label

skips : (b : Bool) → cond b Do Skip ≡ Skip → b ≡ false
skips true e = absurd (cc)
skips false e = refl

does : (b : Bool) → cond b Do Skip ≡ Do → b ≡ true
does true e = refl
does false e = absurd (cc)

-- ## The edge

module _ (words : Words) (st : Stated) (profile : Profile) (e : Edge) (s : State) (i : Input)
    (h : IsSetForEdge words st profile e s i) where
  abbrev a : ℕ
  a = address_in s.regs

  abbrev bus : Bus
  bus = with_lines i.lines.0 s.bus

  abbrev rom : RomTimes
  rom = s.bus.memc.control.rom_times

  abbrev prices : Profile → Prices
  prices p = record { profile = p; rom = rom }

  abbrev class : Class
  class = class_at st a h.action.base

  at : a ≡ h.address
  at = at_address profile h.word h.address h.flags s h.begins

  svc : mode_of (r15_in s.regs) ≡ Svc
  svc = in_svc profile h.word h.address h.flags s h.begins

  long : 26 < length s.regs
  long = let n = h.begins.registers in omega arith

  word_is : word_of words a ≡ Some h.word
  word_is = ap (word_of words) at ∙ h.has

  has : HasAction words a h.action
  has = record { word = h.word; word_is = word_is; is = h.is }

  from : e.from ≡ At h.calls a
  from = h.from ∙ ap (λ t. At h.calls t) (sym at)

  label : e.label ≡ label_in s.regs h.action.cond
  label =
      let flags = flags_are profile h.word h.address h.flags s h.begins in
      sym h.label ∙ ap (λ f. label_by f h.action.cond) (sym flags)

  among : Contains (word_edges st profile h.calls a h.action) e
  among =
      let edges = word_edges st profile h.calls a h.action in
      among_edges words st profile (At h.calls a) edges e (h.action, has, refl) h.is_edge from

  way : may_go (label_in s.regs h.action.cond) h.action.cond (taken_at st a) ≡ true
  way =
      subst (λ l. may_go l h.action.cond (taken_at st a) ≡ true) label
      (edge_goes st profile h.calls a h.action e among)

  works : (m : Moved) → Obeys h.word i.port s.regs bus m
      → Works (interrupt_due bus (r15_in s.regs)) i.port s.regs bus m
  works m obeys =
      let none = no_interrupt profile h.word h.address h.flags s h.begins i.lines.0 in
      subst (λ (due : Option Vector). Works due i.port s.regs bus m) (sym none)
      (subst (λ (word : Option ℕ). ObeysFetched word i.port s.regs bus m) (sym h.begins.fetches) obeys)

  -- a step that does this takes the edge at its price
  tight : (m : Moved) → Obeys h.word i.port s.regs bus m → m.kind ≡ ended.Plain
      → TransfersIn class m.accesses → TakesWithin (cycles_at st a) m.accesses
      → IsPlaceOf st.leave (address_in m.regs) e.to → ticks_of (prices profile) m.accesses ≡ e.cost
      → IsTight words st profile e s i
  tight m obeys plain transfers cycles to cost =
      let plainly = kind_of_answer s m ∙ plain in
      let plain_is : IsPlainStep s m (answer_of s m) = plain_step s m (answer_of s m) refl plainly in
      let ticks = plain_is.ticks ∙ ap (λ (p : Profile). ticks_of (prices p) m.accesses) h.begins.prices in
      record {
        privileged = ap is_user svc;
        stepped = answer_of s m;
        after = state_after s i m;
        takes = record {
          calls = h.calls;
          action = h.action;
          executes = record {
            registers = h.begins.registers;
            prices = h.begins.prices;
            has = has;
            fetches = h.begins.fetches ∙ sym word_is;
            step = record { moved = m; works = works m obeys; stepped_is = refl; after_is = refl };
            plain = plainly;
            transfers = transfers;
            cycles = cycles;
            way = way;
          };
          taken = record {
            is_edge = h.is_edge;
            from = from;
            label = label;
            to = subst (λ t. IsPlaceOf st.leave t e.to) (sym plain_is.to) to;
          };
        };
        exact = ticks ∙ cost;
      }

  -- an action that is the same holds alike
  same_test : (b : Bool) (x : Action) → h.action ≡ x → holds_in s.regs h.action.cond ≡ b
      → holds_in s.regs x.cond ≡ b
  same_test b x is holds = ap (λ (y : Action). holds_in s.regs y.cond) (sym is) ∙ holds

  -- ## The word is passed over

  obeys_skipped : holds_in s.regs h.action.cond ≡ false → IsAction h.word h.action
      → Obeys h.word i.port s.regs bus (on_bus bus (skipped s.regs))
  obeys_skipped fails (inl (x, means, is)) =
      inl (x, means, sym (cond-false _ _ _ (same_test false (instr_action x) is fails)))
  obeys_skipped fails (inr (u, none, is)) =
      inr (u, none, sym (cond-false _ _ _ (same_test false (unallocated_action u) is fails)))

  tight_skip : skip_edge profile h.calls a ≡ e → IsTight words st profile e s i
  tight_skip is =
      let fails = skips _ (sym label ∙ sym (ap (λ (x : Edge). x.label) is)) in
      let done = skipped_pays (setting st profile a e.to s i h.begins.dearest long h.action.base) in
      let in_class = transfers_in class _ done.pays.in_class in
      let cycles = takes_within (cycles_at st a) _ done.pays.short in
      let goes = (skipped_costs st profile rom class s.regs long bus in_class cycles done.plain).reaches in
      let cost : passing_ticks profile a ≡ e.cost = ap (λ (x : Edge). x.cost) is in
      let exact : ticks_of (prices profile) (skipped s.regs).accesses
      ≡ passing_ticks profile a + 0 * profile.internal + 0 = done.pays.exact in
      tight (on_bus bus (skipped s.regs)) (obeys_skipped fails h.is) done.plain in_class cycles
      (subst (λ (x : Edge). IsPlaceOf st.leave (address_in (skipped s.regs).regs) x.to) is (sym goes))
      (omega (arith, exact, cost))

  -- ## The word is done

  module _ (x : Instr) (means : Means h.word x)
      (set : IsSetFor st profile h.address e.to s i x.operation) where
    action_is : h.action ≡ instr_action x
    action_is = one_action h.word h.action (instr_action x) h.is (inl (x, means, refl))

    moved : Moved
    moved = operation_moved x.operation i.port s.regs bus

    obeys_done : holds_in s.regs h.action.cond ≡ true → Obeys h.word i.port s.regs bus moved
    unfolding moved
    obeys_done holds = inl (x, means, sym (cond-true _ _ _ (same_test true (instr_action x) action_is holds)))

    -- it leads to the edge's target, and the edge costs what its action does
    done_by : Contains (landings st h.calls a (kind_of x.operation)) e.to
        → do_ticks st profile a (instr_action x) e.to ≡ e.cost → holds_in s.regs h.action.cond ≡ true
        → IsTight words st profile e s i
    unfolding moved
    done_by lands cost holds =
        let k : Kind = kind_of x.operation in
        let set_here = subst (λ n. IsSetFor st profile n e.to s i x.operation) (sym at) set in
        let dear = h.begins.dearest in
        let done = operation_set st profile a e.to s i dear long svc x.operation h.calls a lands set_here in
        let base_is : base_of x.operation ≡ h.action.base = sym (ap (λ (b : Action). b.base) action_is) in
        let in_class : TransfersIn class moved.accesses =
        subst (λ b. TransfersIn (class_at st a b) moved.accesses) base_is
        (transfers_in (class_at st a (base_of x.operation)) _ done.pays.in_class) in
        let cycles = takes_within (cycles_at st a) _ done.pays.short in
        let fits = action_fits h.word (instr_action x) (inl (x, means, refl)) in
        let costs = operation_costs st profile rom class s.regs long x.operation i.port bus fits in
        let goes = (costs in_class cycles done.plain).reaches in
        let fetched_same = fetch_stated profile st a (work_of x.operation) in
        let t : ℕ = address_in moved.regs in
        let there = arrives_exactly st profile rom class dear h.calls a k t e.to goes done.lands lands in
        tight moved (obeys_done holds) done.plain in_class cycles there.is_place
        (omega (arith, done.pays.exact, fetched_same, there.price, cost))

    tight_done : (to : Place) → Contains (landings st h.calls a h.action.kind) to
        → do_edge st profile h.calls a h.action to ≡ e → IsTight words st profile e s i
    tight_done to lands is =
        let to_is : to ≡ e.to = ap (λ (d : Edge). d.to) is in
        done_by
        (subst (λ (b : Action). Contains (landings st h.calls a b.kind) e.to) action_is
        (subst (λ (q : Place). Contains (landings st h.calls a h.action.kind) q) to_is lands))
        (ap (λ (b : Action). do_ticks st profile a b e.to) (sym action_is)
        ∙ ap (λ (q : Place). do_ticks st profile a h.action q) (sym to_is)
        ∙ ap (λ (d : Edge). d.cost) is)
        (does _ (sym label ∙ sym (ap (λ (d : Edge). d.label) is)))

  tight_do : (to : Place) → Contains (landings st h.calls a h.action.kind) to
      → do_edge st profile h.calls a h.action to ≡ e → IsTight words st profile e s i
  tight_do to lands is = elim h.skipped_or_set [
    | inl skip ↦ absurd (not_both e.label skip (sym (ap (λ (d : Edge). d.label) is)))
    | inr (x, means, set) ↦ tight_done x means set to lands is
  ]

  tight_edge : IsTight words st profile e s i
  tight_edge = elim (which_edge st profile h.calls a h.action e among) [
    | inl is ↦ tight_skip is
    | inr (to, lands, is) ↦ tight_do to lands is
  ]

pub law : TightLaw
law words st profile e s i h = tight_edge words st profile e s i h
