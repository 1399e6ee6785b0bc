-- A step against the statement: what it executes, and along which edge.
use Rattle.std.proofs.Common.{◌≡◌, ℕ, ◌<◌, ◌≤◌, inl, inr, Bool, true, false, cond, List, length, Option, Some, None, refl, sym, ap, subst, ◌∙◌, arith}
use Rattle.std.specs.Prelude.{Contains, IfSome}
use Rattle.std.proofs.lemmas.List.Elements.{Contains-get_or}
use Rattle.std.proofs.lemmas.Option.{same_Some}
use Rattle.bus_ticks.specs.declared.profile.Class.{Class}
use Rattle.image.specs.Image.{Words}
use Rattle.statement.specs.Stated.{Stated, class_at, cycles_at, taken_at}
use Rattle.statement.specs.declared.stated.Taken.{Taken}
use Rattle.arm2_decode.specs.Names.{is_always, is_never}
use Rattle.arm2_decode.specs.declared.names.Cond.{Cond}
use Rattle.arm2_decode.specs.declared.names.Register.{Register}
use Rattle.arm2_effect.specs.declared.exceptions.Vector.{Vector}
use Rattle.arm2_effect.specs.declared.step_end.Kind.{Kind}
use Rattle.arm2_effect.specs.declared.step_end.Kind.TheVariants as ended
use Rattle.arm2_effect.specs.declared.step_end.Why.{Why}
use Rattle.arm2_effect.specs.Modes.{r15_in}
use Rattle.arm2_transfer.specs.declared.bus.Bus.{Bus}
use Rattle.arm2_transfer.specs.Moved.{Moved}
use Rattle.arm2_exec.specs.State.{State}
use Rattle.arm2_exec.specs.Step.{Obeys, ObeysFetched, Step, address_in, interrupt_due, state_after, with_lines}
use Rattle.arm2_exec.specs.declared.machine.Input.{Input}
use Rattle.arm2_exec.specs.declared.machine.Stepped.{Stepped}
use Rattle.arm2_effect.specs.Effects.{is_stopped}
use Rattle.arm2_exec.proofs.StepLemmas.{one_step, same_profile, works_one}
use Rattle.arm2_effect.specs.Effects.{Internal}
use Rattle.arm2_effect.specs.ProgramCounter.{flags_of}
use Rattle.control_flow.specs.Edges.{HasAction, may_go}
use Rattle.control_flow.specs.Flow.{Flow}
use Rattle.control_flow.specs.Graph.{IsFlowGraph}
use Rattle.control_flow.specs.Kinds.{IsAction, instr_action, unallocated_action}
use Rattle.flow_graph.specs.StepLaw.{Executes, IsEdgeOf, IsTaken, TakesWithin, TransfersIn, holds_in, label_in}
use Rattle.control_flow.specs.declared.edges.Edge.{Edge}
use Rattle.control_flow.specs.declared.edges.Label.{Label}
use Rattle.control_flow.specs.declared.actions.Action.{Action}
use Rattle.control_flow.specs.declared.places.Place.{Place}
use Rattle.control_flow.proofs.EdgeLemmas.{one_action}
use Rattle.control_flow.proofs.FlowLemmas.{has_edge_is_edge, is_edge_has_edge}
use Rattle.control_flow.proofs.LabelLemmas.{always_holds, never_holds}
use Rattle.flow_graph.proofs.StepLemmas.{IsPlainStep, plain_step, works_plain}
use Rattle.flow_graph.proofs.StepTicks.{some_stated}
use Rattle.longest_walk.specs.Built.{step_at}
use Rattle.kept_runs.specs.declared.edges.Going.{Going}
use Rattle.kept_runs.specs.declared.reading.Reading.{Reading}
use Rattle.bus_ticks.specs.Worst.{IsOf}
use Rattle.kept_runs.specs.declared.transfers.Access.{Access}
use Rattle.kept_runs.specs.declared.transfers.Transfer.{Transfer}
use Rattle.walk_counts.specs.Counts.{is_same_label}
use Rattle.walk_counts.proofs.NumberLemmas.{one_label, own_label}
use Rattle.kept_runs.specs.Edges.{HasNoEdge, IsFound, IsMet}
use Rattle.kept_runs.specs.declared.judging.Stray.TheVariants as stray
use Rattle.kept_runs.specs.declared.judging.Stray.{Stray}
use Rattle.kept_runs.specs.declared.judging.StrayStep.{StrayStep}
use Rattle.kept_runs.specs.Judging.{Does, GoesStatedWay, IsAtPlace, Strays, StraysBy, Takes, TakesNone, label_if, made}
use Rattle.kept_runs.specs.Reading.{HasNoWord, IsByCondition, IsReading, FetchesWord}
use Rattle.kept_runs.specs.StatedWord.{Departs, GoesAsStated, GoesOther, IsAsStated, TakesOver, TransfersUnstated}
use Rattle.kept_runs.specs.Transfers.{HasOther}
use Rattle.kept_runs.proofs.MovedLemmas.{Moves, word_moves}

-- ## Labels and places

label_itself : (a b : Label) → a ≡ b → is_same_label a b ≡ true
label_itself a b is = ap (λ x. is_same_label x b) is ∙ own_label b

-- an access of another class is none of the class
is_other : (class : Class) (access : Access) (t : Option Transfer) → HasOther class t access → IsOf class access.address → ⊥
is_other class access None has is = has
is_other class access (Some t) has is = has.1.other is

-- ## The word

-- what is read of a word is what its action does
pub record HasRead (word : ℕ) (regs : List ℕ) (r : Reading) : Type 0 where
  pub action : Action
  pub is : IsAction word action
  pub cond : r.cond ≡ action.cond
  pub holds : r.holds ≡ holds_in regs action.cond
  pub base : r.base ≡ action.base

pub has_read : (word : ℕ) (regs : List ℕ) (r : Reading) → IsReading word regs r → HasRead word regs r
has_read word regs r (inl (i, means, is)) = record {
  action = instr_action i;
  is = inl (i, means, refl);
  cond = ap (λ (x : Reading). x.cond) is;
  holds = ap (λ (x : Reading). x.holds) is;
  base = ap (λ (x : Reading). x.base) is;
}
has_read word regs r (inr (u, none, is)) = record {
  action = unallocated_action u;
  is = inr (u, none, refl);
  cond = ap (λ (x : Reading). x.cond) is;
  holds = ap (λ (x : Reading). x.holds) is;
  base = ap (λ (x : Reading). x.base) is;
}

-- what is false unless the other is true, and is true
true_unless : (a h : Bool) → (h ≡ false → a ≡ false) → a ≡ true → h ≡ true
true_unless a true unless is = refl
true_unless a false unless is = let other : a ≡ false = unless refl in absurd (cc)

false_unless : (a h : Bool) → (h ≡ true → a ≡ false) → a ≡ true → h ≡ false
false_unless a false unless is = refl
false_unless a true unless is = let other : a ≡ false = unless refl in absurd (cc)

pub by_condition : (word : ℕ) (regs : List ℕ) (r : Reading) → IsReading word regs r → IsByCondition r
by_condition word regs r reads =
    let read : HasRead word regs r = has_read word regs r reads in
    let holds : r.holds ≡ holds_in regs r.cond = read.holds ∙ ap (holds_in regs) (sym read.cond) in
    record {
      always = true_unless (is_always r.cond) r.holds (λ fails. always_holds r.cond (flags_of (r15_in regs)) (sym holds ∙ fails));
      never = false_unless (is_never r.cond) r.holds (λ does. never_holds r.cond (flags_of (r15_in regs)) (sym holds ∙ does));
    }

pub after_regs : (stops : Bool) (s a b : State) → length a.regs ≡ length s.regs → length b.regs ≡ length s.regs → length (cond stops a b).regs ≡ length s.regs
after_regs true s a b h k = h
after_regs false s a b h k = k

module _ (words : Words) (st : Stated) (flow : Flow) (graph : IsFlowGraph words st flow.profile flow) (place : Place) (s : State) (i : Input) (is_there : IsAtPlace flow place s) where
  abbrev address : ℕ
  address = address_in s.regs

  abbrev calls : List ℕ
  calls = is_there.at.0

  abbrev bus : Bus
  bus = with_lines i.lines.0 s.bus

  there : {stepped : Stepped} {after : State} {e : Edge} → (h : IsEdgeOf words st flow.profile s i stepped after e) → FetchesWord words s h.executes.has.word
  there h = record { word_is = h.executes.has.word_is; fetches = h.executes.fetches ∙ h.executes.has.word_is }

  none_without_word : HasNoWord words s → TakesNone words st flow place s i
  none_without_word lacks stepped after e h from = lacks h.executes.has.word (there h)

  pub other_word : HasNoWord words s → Strays words st flow place s i s stray.OtherWord
  other_word lacks = record { none = none_without_word lacks; is = (lacks, refl) }

  module _ (stepped : Stepped) (after : State) (step : Step s i stepped after) where
    -- the same step, whoever makes it
    same : {other : Stepped} {last : State} {e : Edge} → (h : IsEdgeOf words st flow.profile s i other last e) → (other ≡ stepped) × (last ≡ after)
    same {other = other} {last = last} h = one_step s i stepped other after last step h.executes.step

    plain_as : {other : Stepped} {last : State} {e : Edge} → (h : IsEdgeOf words st flow.profile s i other last e) → stepped.kind ≡ ended.Plain
    plain_as h = ap (λ (x : Stepped). x.kind) (sym (same h).0) ∙ h.executes.plain

    none_unless_plain : (stepped.kind ≡ ended.Plain → ⊥) → TakesNone words st flow place s i
    none_unless_plain not_plain other last e h from = not_plain (plain_as h)

    not_both : (k other : Kind) → stepped.kind ≡ k → stepped.kind ≡ other → k ≡ other
    not_both k other is also = sym is ∙ also

    pub exception : (word : ℕ) → FetchesWord words s word → (vector : Vector) → stepped.kind ≡ ended.Taken vector → Strays words st flow place s i after (stray.Exception vector)
    exception word at_word vector is = record {
      none = none_unless_plain (λ plain. let both : ended.Taken vector ≡ ended.Plain = not_both (ended.Taken vector) ended.Plain is plain in cc);
      is = record { word = word; fetches = at_word; stepped = stepped; step = step; kind_is = is };
    }

    pub stop : (word : ℕ) → FetchesWord words s word → (why : Why) → stepped.kind ≡ ended.Stopped why → Strays words st flow place s i after (stray.Stopped why)
    stop word at_word why is = record {
      none = none_unless_plain (λ plain. let both : ended.Stopped why ≡ ended.Plain = not_both (ended.Stopped why) ended.Plain is plain in cc);
      is = record { word = word; fetches = at_word; stepped = stepped; step = step; kind_is = is };
    }

    module _ (plain : stepped.kind ≡ ended.Plain) (word : ℕ) (at_word : FetchesWord words s word) (r : Reading) (reads : IsReading word s.regs r) where
      plain_is : IsPlainStep s step.moved stepped
      plain_is = plain_step s step.moved stepped step.stepped_is plain

      obeys : Obeys word i.port s.regs bus step.moved
      obeys =
          subst (λ o. ObeysFetched o i.port s.regs bus step.moved) at_word.fetches
          (works_plain (interrupt_due bus (r15_in s.regs)) i.port s.regs bus step.moved step.works plain_is.kind)

      moves : (class : Class) → Moves class s.regs r.transfer r.cycles step.moved
      moves class = word_moves class s.regs bus word i.port r step.moved reads obeys

      read : HasRead word s.regs r
      read = has_read word s.regs r reads

      has : HasAction words (address_in s.regs) read.action
      has = record { word = word; word_is = at_word.word_is; is = read.is }

      abbrev does : Does words st flow place s i after
      does = record { ends = record { word = word; fetches = at_word; stepped = stepped; step = step; kind_is = plain }; action = read.action; is = read.is }

      -- the step of an edge is this one
      same_action : {other : Stepped} {last : State} {e : Edge} → (h : IsEdgeOf words st flow.profile s i other last e) → h.action ≡ read.action
      same_action h =
          let word_is : h.executes.has.word ≡ word = same_Some h.executes.has.word word (sym h.executes.has.word_is ∙ at_word.word_is) in
          one_action word h.action read.action (subst (λ w. IsAction w h.action) word_is h.executes.has.is) read.is

      same_moved : {other : Stepped} {last : State} {e : Edge} → (h : IsEdgeOf words st flow.profile s i other last e) → h.executes.step.moved ≡ step.moved
      same_moved h = works_one i.port s.regs bus (interrupt_due bus (r15_in s.regs)) h.executes.step.moved step.moved h.executes.step.works step.works

      -- ## What is stated of the word

      label_is : label_if r.holds ≡ label_in s.regs read.action.cond
      label_is = ap label_if read.holds

      way_is : (t : Option Taken) → may_go (label_if r.holds) r.cond t ≡ may_go (label_in s.regs read.action.cond) read.action.cond t
      way_is t =
          ap (λ (l : Label). may_go l r.cond t) label_is
          ∙ ap (λ (k : Cond). may_go (label_in s.regs read.action.cond) k t) read.cond

      goes : GoesAsStated st address r → GoesStatedWay words st flow place s i read.action
      goes way = sym (way_is (taken_at st address)) ∙ way

      class_is : class_at st address r.base ≡ class_at st address read.action.base
      class_is = ap (class_at st address) read.base

      -- a word that goes another way
      none_other_way : (taken : Taken) → GoesOther st address r taken → TakesNone words st flow place s i
      none_other_way taken other other_stepped last e h from =
          let may : may_go (label_in s.regs read.action.cond) read.action.cond (taken_at st address) ≡ true
          = subst (GoesStatedWay words st flow place s i) (same_action h) h.executes.way in
          let stated : may_go (label_in s.regs read.action.cond) read.action.cond (Some taken) ≡ true
          = subst (λ (t : Option Taken). may_go (label_in s.regs read.action.cond) read.action.cond t ≡ true) other.stated may in
          let not_so : may_go (label_in s.regs read.action.cond) read.action.cond (Some taken) ≡ false = sym (way_is (Some taken)) ∙ other.other in
          cc

      -- a word of another class
      none_other_class : (access : Access) (stated : Class) → TransfersUnstated st address r access stated → TakesNone words st flow place s i
      none_other_class access stated unstated other_stepped last e h from =
          let is : class_at st address h.action.base ≡ stated = ap (λ (a : Action). class_at st address a.base) (same_action h) ∙ sym class_is ∙ sym unstated.stated_is in
          let all : TransfersIn stated step.moved.accesses =
          subst (λ (m : Moved). TransfersIn stated m.accesses) (same_moved h)
          (subst (λ (k : Class). TransfersIn k h.executes.step.moved.accesses) is h.executes.transfers) in
          let word = (moves stated).there plain_is.kind access unstated.other in
          is_other stated access r.transfer unstated.other (all access.store word.0 access.address word.1)

      -- a multiply of more cycles
      takes_cycles : (cycles : ℕ) → r.cycles ≡ Some cycles → Contains step.moved.accesses (Internal cycles)
      takes_cycles cycles is = subst (λ (c : Option ℕ). IfSome c (λ n. Contains step.moved.accesses (Internal n))) is ((moves st.leave).takes plain_is.kind)

      none_more_cycles : (cycles : ℕ) → TakesOver st address r cycles → TakesNone words st flow place s i
      none_more_cycles cycles over other_stepped last e h from =
          let few : TakesWithin (cycles_at st address) step.moved.accesses =
          subst (λ (m : Moved). TakesWithin (cycles_at st address) m.accesses) (same_moved h) h.executes.cycles in
          let at_most : cycles ≤ cycles_at st address = few cycles (takes_cycles cycles over.takes) in
          let more : cycles_at st address < cycles = over.more in
          omega (arith, at_most, more)

      pub unstated : (why : Stray) → Departs st address r why → Strays words st flow place s i after why
      unstated stray.OtherWord is = absurd is
      unstated (stray.Exception vector) is = absurd is
      unstated (stray.Stopped why) is = absurd is
      unstated (stray.OtherWay taken) is = record {
        none = none_other_way taken is;
        is = record { does = does; stated = is.stated; other = sym (way_is (Some taken)) ∙ is.other };
      }
      unstated (stray.OtherClass access stated) (way, is) = record {
        none = none_other_class access stated is;
        is = record { does = does; way = goes way; stated_is = is.stated_is ∙ class_is; is_first = (moves stated).first_other plain_is.kind access is.other };
      }
      unstated (stray.MoreCycles cycles) (way, all, is) = record {
        none = none_more_cycles cycles is;
        is = record { does = does; way = goes way; takes = takes_cycles cycles is.takes; more = is.more };
      }
      unstated (stray.Elsewhere to) is = absurd is

      executes : IsAsStated st address r → Executes words st flow.profile read.action s i stepped after
      executes as_stated = record {
        registers = is_there.machine.registers;
        prices = is_there.machine.prices;
        has = has;
        fetches = at_word.fetches ∙ sym at_word.word_is;
        step = step;
        plain = plain;
        transfers = subst (λ (k : Class). TransfersIn k step.moved.accesses) class_is ((moves (class_at st address r.base)).in_class plain_is.kind as_stated.transfers);
        cycles = (moves st.leave).within plain_is.kind (cycles_at st address) (some_stated st address) as_stated.takes;
        way = goes as_stated.goes;
      }

      -- ## The edge

      abbrev going : Going
      going = record { label = label_if r.holds; to = stepped.to; leave = st.leave }

      -- an edge by the step's label, to where it goes, is met
      met_by : (c : List ℕ) (e : Edge) → IsTaken words st flow.profile c read.action s stepped e → IsMet going e
      met_by c e taken =
          let label : e.label ≡ label_if r.holds = taken.label ∙ sym label_is in
          (label_itself e.label (label_if r.holds) label, taken.to)

      -- an edge of the step is one of the place's
      met : {other : Stepped} {last : State} {e : Edge} → (h : IsEdgeOf words st flow.profile s i other last e) → IsMet going e
      met {other = other} {last = last} {e = e} h =
          let taken : IsTaken words st flow.profile h.calls h.action s stepped e = subst (λ (x : Stepped). IsTaken words st flow.profile h.calls h.action s x e) (same h).0 h.taken in
          met_by h.calls e (subst (λ (a : Action). IsTaken words st flow.profile h.calls a s stepped e) (same_action h) taken)

      none_elsewhere : Contains flow.places place → HasNoEdge flow place going → TakesNone words st flow place s i
      none_elsewhere place_in none other last e h from =
          none e
          (is_edge_has_edge words st flow.profile flow graph e (subst (Contains flow.places) (sym from) place_in) h.taken.is_edge)
          from (met h)

      no_edge : Contains flow.places place → HasNoEdge flow place going → (c : List ℕ) (e : Edge) → IsTaken words st flow.profile c read.action s stepped e → e.from ≡ place → ⊥
      no_edge place_in none c e taken from =
          none e
          (is_edge_has_edge words st flow.profile flow graph e (subst (Contains flow.places) (sym from) place_in) taken.is_edge)
          from (met_by c e taken)

      pub elsewhere : IsAsStated st address r → Contains flow.places place → HasNoEdge flow place going → Strays words st flow place s i after (stray.Elsewhere stepped.to)
      elsewhere as_stated place_in none = record {
        none = none_elsewhere place_in none;
        is = record { action = read.action; stepped = stepped; executes = executes as_stated; to_is = refl; none = no_edge place_in none };
      }

      long : length after.regs ≡ 27
      unfolding state_after
      long =
          let same_long : length step.moved.regs ≡ length s.regs = (moves st.leave).registers plain_is.kind in
          ap (λ (x : State). length x.regs) step.after_is
          ∙ after_regs (is_stopped step.moved.kind) s s _ refl same_long
          ∙ is_there.machine.registers

      pub takes : IsAsStated st address r → stepped.ticks < 65536 → (k : ℕ) → IsFound flow place going k → Takes words st flow place s i after (record { edge = k; stepped = stepped })
      takes as_stated small k found =
          let e : Edge = step_at flow.edges k in
          record {
            known = found.known;
            is_edge_of = record {
              calls = calls;
              action = read.action;
              executes = executes as_stated;
              taken = record {
                is_edge = has_edge_is_edge words st flow.profile flow graph e (Contains-get_or flow.edges k _ found.known);
                from = found.from ∙ is_there.at.1;
                label = one_label e.label (label_if r.holds) found.met.0 ∙ label_is;
                to = found.met.1;
              };
            };
            from = found.from;
            machine = record { registers = long; prices = same_profile s i stepped after step ∙ is_there.machine.prices };
            small = small;
          }

-- with what the step did
pub made_by : (words : Words) (st : Stated) (flow : Flow) (place : Place) (s : State) (i : Input) (after : State) (why : Stray) (stepped : Stepped) (by : StrayStep) → by ≡ made why stepped
    → Step s i stepped after → stepped.ticks < 65536 → Strays words st flow place s i after why → StraysBy words st flow place s i after by
made_by words st flow place s i after why stepped by is step small strays =
    subst (λ (x : StrayStep). StraysBy words st flow place s i after x) (sym is) (record { strays = strays; step = (step, small) })
