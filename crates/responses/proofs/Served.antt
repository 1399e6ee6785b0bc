-- A run that waits for an interrupt and serves it. Each word is SUBS PC,R14,#4: the interrupted program's in
-- ROM, which is carried out in SVC mode, in IRQ mode, and would be in SVC mode again; and the handler's.
use Rattle.std.proofs.Common.{◌≡◌, ◌∙◌, ◌++◌, ℕ, ◌+◌, ◌*◌, ◌/◌, ◌%◌, ◌==◌, ◌&&◌, ◌||◌, not, List, [], ◌∷◌}
use Rattle.std.proofs.Common.{length, Bool, true, false, cond, Option, None, Some, Contains, ⊎_elim}
use Rattle.std.proofs.Common.{replicate, refl, sym, ap, subst, inl, arith, lit<}
use Rattle.std.specs.List.Sorted.{IsStrictlySortedBy}
use Rattle.std.proofs.lemmas.Bool.{cond-false, eq-eqb}
use Rattle.std.proofs.lemmas.List.Elements.{All-nil}
use Rattle.std.proofs.lemmas.Option.{same_Some}
use Rattle.bus_ticks.specs.declared.profile.Class.TheVariants.{Any}
use Rattle.bus_ticks.specs.declared.profile.Profile.{Profile}
use Rattle.image.specs.Image.{Words, word_of}
use Rattle.memc.specs.Memory.{Memory, control_of}
use Rattle.memc.specs.Paged.{IsShift}
use Rattle.ioc.specs.Interrupts as ioc
use Rattle.vidc.specs.Video as vidc
use Rattle.shifter.specs.Word.{bits_from}
use Rattle.arm2_decode.specs.Table.{IsUnallocated, Means}
use Rattle.arm2_decode.specs.declared.instr.Instr.{Instr}
use Rattle.arm2_decode.specs.declared.instr.Operation.TheVariants as operation
use Rattle.arm2_decode.specs.declared.names.Cond.TheVariants.{Al}
use Rattle.arm2_decode.specs.declared.names.Opcode.TheVariants.{Sub}
use Rattle.arm2_decode.specs.declared.names.Register.TheVariants.{R14, R15}
use Rattle.arm2_decode.proofs.Unique.{never_both, one_instr}
use Rattle.arm2_effect.specs.declared.exceptions.Vector.{Vector}
use Rattle.arm2_effect.specs.declared.step_end.Kind.{Kind}
use Rattle.arm2_effect.specs.declared.step_end.Kind.TheVariants.{Plain, Taken}
use Rattle.arm2_effect.specs.Effects.{is_stopped}
use Rattle.arm2_effect.specs.Exceptions.{taken}
use Rattle.arm2_effect.specs.Modes.{r15_in}
use Rattle.arm2_effect.specs.Operands as operands
use Rattle.arm2_effect.specs.Operations.{data_immediate_effect, jumped, operation_effect, outcome_effect}
use Rattle.arm2_effect.specs.ProgramCounter.{address_of, is_fiq_masked, is_irq_masked}
use Rattle.arm2_transfer.specs.declared.bus.Bus.{Bus}
use Rattle.arm2_transfer.specs.Moved.{Moved, on_bus}
use Rattle.arm2_exec.specs.Run.{Ends, Runs, at_rest, counted, why_stopped}
use Rattle.arm2_exec.specs.State.{State}
use Rattle.arm2_exec.specs.Step.{ObeysFetched, Step, Works, address_in, answer_of, elapsed, fetched}
use Rattle.arm2_exec.specs.Step.{instruction_moved, interrupt_due, interrupt_of, state_after, time_in}
use Rattle.arm2_exec.specs.Step.{with_flybacks, with_lines}
use Rattle.arm2_exec.specs.declared.machine.Input.{Input}
use Rattle.arm2_exec.specs.declared.machine.Ran.{Ran}
use Rattle.arm2_exec.specs.declared.machine.Stepped.{Stepped}
use Rattle.control_flow.specs.Edges.{AreEdgesOf, HasAction, IsEdge, do_edge, word_edges}
use Rattle.control_flow.specs.Flow.{Flow, edge_shape}
use Rattle.control_flow.specs.Graph.{IsFlowGraph}
use Rattle.control_flow.specs.Kinds.{instr_action}
use Rattle.control_flow.specs.declared.actions.Action.{Action}
use Rattle.control_flow.specs.declared.edges.Edge.{Edge}
use Rattle.control_flow.specs.declared.places.Place.{Place}
use Rattle.control_flow.specs.declared.places.Place.TheVariants.{At, Exit}
use Rattle.control_flow.proofs.LabelLemmas.{only_one}
use Rattle.control_flow.proofs.SortedLemmas.{no_member}
use Rattle.flow_graph.specs.StepLaw.{Executes, Follows, IsTaken}
use Rattle.flow_graph.proofs.TightTicks.{onward_short, takes_within}
use Rattle.kept_runs.specs.Visited.{IsVisit, Visit}
use Rattle.loop_bounds.specs.Bounds.{KeepsTheBounds}
use Rattle.statement.specs.Stated.{Stated, cycles_at}
use Rattle.statement.specs.declared.stated.Returns.TheVariants.{Assumed}
use Rattle.walks.specs.Walk.{Leads}
use Rattle.responses.specs.declared.interrupts.Interrupt.{Interrupt}
use Rattle.responses.specs.declared.interrupts.Interrupt.TheVariants.{Irq, Fiq}
use Rattle.responses.specs.Entry.{is_active, is_active_at, is_held_back, is_held_back_at, vector_of}
use Rattle.responses.specs.Response.{HasService, Serves, Service, inputs_of, is_at}
use Rattle.responses.specs.Visited.{HasVisitedService, KeepsStated, ServesVisited, VisitedService}
use Rattle.responses.specs.Visited.{service_inputs}
use Rattle.responses.proofs.EntryLemmas.{is_due}

abbrev word : ℕ
word = 0xE25EF004

unfoldable instr : Instr
instr = record {
  cond = Al;
  operation =
      operation.DataImmediate (record {
        opcode = Sub;
        sets_flags = true;
        rn = R14;
        rd = R15;
        rotation = 0;
        value = 4;
        allocated = refl;
        rotation_fits = lit< tt;
        value_fits = lit< tt;
      });
}

means : Means word instr
unfolding instr
means = record { fixed = refl; fields = refl }

-- ## The handler's flow graph

module _ (entry : ℕ) (profile : Profile) where
  abbrev words : Words
  words = (entry, word) ∷ []

  there : word_of words entry ≡ Some word
  there = rw (eq-eqb entry entry refl) refl

  abbrev stated : Stated
  stated = record {
    entry = entry;
    leave = Any;
    returns = Assumed;
    loops = record { list = []; apart = [] };
    targets = [];
    accesses = [];
    rules = [];
    multiplies = [];
    branches = [];
  }

  edge : Edge
  edge = do_edge stated profile [] entry (instr_action instr) Exit

  flow : Flow
  flow = record {
    entry = At [] entry;
    places = At [] entry ∷ [];
    edges = edge ∷ [];
    firsts = 0 ∷ 1 ∷ [];
    profile = profile;
  }

  has : HasAction words entry (instr_action instr)
  has = record { word = word; word_is = there; is = inl (instr, means, refl) }

  is_edge : IsEdge words stated profile edge
  unfolding edge instr
  is_edge = (edge ∷ [], (instr_action instr, has, refl), (0, lit< tt, refl))

  -- the word does nothing else
  one_action : (a : Action) → HasAction words entry a → a ≡ instr_action instr
  one_action a h =
      let word_is : word ≡ h.word = same_Some word h.word (sym there ∙ h.word_is) in
      ⊎_elim
      (λ m. m.2 ∙ ap instr_action
      (sym (one_instr word instr m.0 means (subst (λ (w : ℕ). Means w m.0) (sym word_is) m.1))))
      (λ u. absurd (never_both word instr u.0 means
      (subst (λ (w : ℕ). IsUnallocated w u.0) (sym word_is) u.1)))
      h.is

  -- the entry has the one edge, and Exit none
  one_edge : (e : Edge) → IsEdge words stated profile e → e.from ≡ At [] entry → e ≡ edge
  unfolding edge instr
  one_edge e is from =
      let are : AreEdgesOf words stated profile (At [] entry) is.0 =
      subst (λ (p : Place). AreEdgesOf words stated profile p is.0) from is.1 in
      let edges_are : is.0 ≡ edge ∷ [] =
      are.2 ∙ ap (word_edges stated profile [] entry) (one_action are.0 are.1) in
      sym (only_one edge e (subst (λ (es : List Edge). Contains es e) edges_are is.2))

  no_edge : (e : Edge) → IsEdge words stated profile e → e.from ≡ Exit → ⊥
  no_edge e is from =
      let none : is.0 ≡ [] = subst (λ (p : Place). AreEdgesOf words stated profile p is.0) from is.1 in
      no_member e (subst (λ (es : List Edge). Contains es e) none is.2)

  reached : (p : Place) (walk : List Edge)
      → Leads edge_shape (IsEdge words stated profile) (At [] entry) walk p → (p ≡ Exit → ⊥) → At [] entry ≡ p
  unfolding edge
  reached p [] leads inside = leads
  reached p (e ∷ []) leads inside =
      absurd (inside (sym leads.2 ∙ ap (λ (d : Edge). d.to) (one_edge e leads.0 leads.1)))
  reached p (e ∷ f ∷ rest) leads inside =
      absurd (no_edge f leads.2.0 (leads.2.1 ∙ ap (λ (d : Edge). d.to) (one_edge e leads.0 leads.1)))

  graph_is : IsFlowGraph words stated profile flow
  unfolding flow edge instr IsStrictlySortedBy
  graph_is = record {
    entry_is = refl;
    ordered = (tt, tt);
    exact = λ p. (
      λ has. let same = only_one (At [] entry) p has in (([], same), λ exit. cc (same ∙ exit)),
      λ r. (0, lit< tt, reached p r.0.0 r.0.1 r.1),
    );
    parts = (edge ∷ []) ∷ [];
    parts_are = ((instr_action instr, has, refl), tt);
    edges_are = refl;
    firsts_are = refl;
    profile_is = refl;
  }

  keeps_bounds : KeepsTheBounds flow stated.loops []
  keeps_bounds = λ i is. absurd (no_member is.stated_loop is.stated)

-- ## The machine

-- both vectors' words in RAM, and the program's in ROM
memory : Memory
memory = record {
  shift = 12;
  paged = record {
    words = replicate 6 0 ++ word ∷ word ∷ [];
    pages = Some (record { physical = 0; level = 0 }) ∷ [];
  };
  control = control_of 0;
  rom = (0x3800000, word) ∷ [];
}

memory_pages : IsShift memory.shift
unfolding memory
memory_pages = (omega arith, omega arith)

-- the line B1 asks for IRQ, and F0 for FIQ
record IsOn (profile : Profile) (regs : List ℕ) (s : State) : Type 0 where
  regs_are : s.regs ≡ regs
  memory_is : s.bus.memc ≡ memory
  prices : s.profile ≡ profile
  mask_b : s.bus.ioc.mask_b ≡ 2
  mask_f : s.bus.ioc.mask_f ≡ 1

masks_stay : (rises : ℕ) (c : ioc.Controller) → ((with_flybacks rises c).mask_b ≡ c.mask_b)
    × ((with_flybacks rises c).mask_f ≡ c.mask_f)
masks_stay rises c = by_zero (rises == 0)
  where
    by_zero : (b : Bool) → ((cond b c (ioc.with_flyback c)).mask_b ≡ c.mask_b)
        × ((cond b c (ioc.with_flyback c)).mask_f ≡ c.mask_f)
    by_zero true = (refl, refl)
    by_zero false = (refl, refl)

-- a step that changes registers alone leaves the machine on
stays_on : (profile : Profile) (regs new : List ℕ) (s : State) (i : Input) (m : Moved) → IsOn profile regs s
    → is_stopped m.kind ≡ false → m.bus ≡ with_lines i.lines.0 s.bus → m.regs ≡ new
    → IsOn profile new (state_after s i m)
unfolding state_after
stays_on profile regs new s i m on goes bus_is regs_are =
    let next : State = record { regs = m.regs; bus = elapsed (time_in s i m) m.bus; profile = s.profile } in
    let after_is : state_after s i m ≡ next = cond-false (is_stopped m.kind) _ _ goes in
    let masks =
    masks_stay (vidc.flybacks (time_in s i m) m.bus.vidc) (ioc.advanced (time_in s i m) m.bus.ioc) in
    record {
      regs_are = ap (λ (t : State). t.regs) after_is ∙ regs_are;
      memory_is = ap (λ (t : State). t.bus.memc) after_is ∙ ap (λ (b : Bus). b.memc) bus_is ∙ on.memory_is;
      prices = ap (λ (t : State). t.profile) after_is ∙ on.prices;
      mask_b = ap (λ (t : State). t.bus.ioc.mask_b) after_is ∙ masks.0 ∙ ap (λ (b : Bus). b.ioc.mask_b) bus_is
          ∙ on.mask_b;
      mask_f = ap (λ (t : State). t.bus.ioc.mask_f) after_is ∙ masks.1 ∙ ap (λ (b : Bus). b.ioc.mask_f) bus_is
          ∙ on.mask_f;
    }

-- ## A step of the word

-- where a machine is that carries the word out, and the registers after it
record Returns (regs new : List ℕ) : Type 0 where
  fetches : fetched memory (r15_in regs) ≡ Some word
  moves : (port : ℕ) (bus : Bus) → (instruction_moved instr port regs bus).regs ≡ new

module _ (profile : Profile) (regs new : List ℕ) (s : State) (i : Input) (on : IsOn profile regs s)
    (returns : Returns regs new)
    (none_due : interrupt_due (with_lines i.lines.0 s.bus) (r15_in s.regs) ≡ None) where
  abbrev bus : Bus
  bus = with_lines i.lines.0 s.bus

  unfoldable moved : Moved
  moved = instruction_moved instr i.port s.regs bus

  stepped : Stepped
  stepped = answer_of s moved

  after : State
  after = state_after s i moved

  fetches : fetched s.bus.memc (r15_in s.regs) ≡ Some word
  fetches = ap (λ (m : Memory). fetched m (r15_in s.regs)) on.memory_is
      ∙ ap (λ (r : List ℕ). fetched memory (r15_in r)) on.regs_are ∙ returns.fetches

  works : Works (interrupt_due bus (r15_in s.regs)) i.port s.regs bus moved
  unfolding moved
  works =
      subst (λ (due : Option Vector). Works due i.port s.regs bus moved) (sym none_due)
      (subst (λ (w : Option ℕ). ObeysFetched w i.port s.regs bus moved) (sym fetches)
      (inl (instr, means, refl)))

  step : Step s i stepped after
  unfolding stepped after
  step = record { moved = moved; works = works; stepped_is = refl; after_is = refl }

  plain : stepped.kind ≡ Plain
  unfolding stepped moved instr answer_of operation_effect data_immediate_effect outcome_effect jumped
  plain = refl

  moved_goes : is_stopped moved.kind ≡ false
  unfolding moved instr operation_effect data_immediate_effect outcome_effect jumped
  moved_goes = refl

  moved_bus : moved.bus ≡ bus
  unfolding moved instr operation_effect data_immediate_effect outcome_effect jumped
  moved_bus = refl

  moved_regs : moved.regs ≡ new
  unfolding moved
  moved_regs = ap (λ (r : List ℕ). (instruction_moved instr i.port r bus).regs) on.regs_are
      ∙ returns.moves i.port bus

  after_on : IsOn profile new after
  unfolding after
  after_on = stays_on profile regs new s i moved on moved_goes moved_bus moved_regs

  goes_on : why_stopped stepped.kind ≡ None
  goes_on = ap why_stopped plain

  -- it is the handler's edge, where it is at the entry
  module _ (entry : ℕ) (long : length regs ≡ 27) (at : address_of (r15_in regs) ≡ entry) where
    at_entry : address_in s.regs ≡ entry
    at_entry = ap (λ (r : List ℕ). address_of (r15_in r)) on.regs_are ∙ at

    executes : Executes (words entry profile) (stated entry profile) profile (instr_action instr) s i stepped
        after
    unfolding step stepped moved instr answer_of operation_effect data_immediate_effect outcome_effect jumped
    executes = record {
      registers = ap (λ (r : List ℕ). length r) on.regs_are ∙ long;
      prices = on.prices;
      has = subst (λ (a : ℕ). HasAction (words entry profile) a (instr_action instr)) (sym at_entry)
          (has entry profile);
      fetches = fetches ∙ sym (there entry profile) ∙ ap (word_of (words entry profile)) (sym at_entry);
      step = step;
      plain = plain;
      transfers = λ store first address is. tt;
      cycles =
          let most = cycles_at (stated entry profile) (address_in s.regs) in
          takes_within most step.moved.accesses (onward_short most (address_of (r15_in s.regs)) _);
      way = refl;
    }

    is_taken : IsTaken (words entry profile) (stated entry profile) profile [] (instr_action instr) s stepped
        (edge entry profile)
    unfolding edge instr
    is_taken = record {
      is_edge = is_edge entry profile;
      from = ap (At []) (sym at_entry);
      label = refl;
      to = tt;
    }

    follows : Follows (words entry profile) (stated entry profile) profile s (i ∷ [])
        (edge entry profile ∷ [])
    follows = (
      stepped,
      after,
      record {
        calls = [];
        action = instr_action instr;
        executes = executes;
        taken = is_taken;
      },
      tt,
    )

-- ## A step that takes the interrupt

module _ (profile : Profile) (regs new : List ℕ) (s : State) (i : Input) (on : IsOn profile regs s)
    (v : Vector) (moves : (taken v regs).regs ≡ new)
    (due : interrupt_due (with_lines i.lines.0 s.bus) (r15_in s.regs) ≡ Some v) where
  abbrev taking_moved : Moved
  taking_moved = on_bus (with_lines i.lines.0 s.bus) (taken v s.regs)

  taking_stepped : Stepped
  taking_stepped = answer_of s taking_moved

  entered : State
  entered = state_after s i taking_moved

  taking_step : Step s i taking_stepped entered
  unfolding taking_stepped entered
  taking_step = record {
    moved = taking_moved;
    works = subst (λ (d : Option Vector). Works d i.port s.regs (with_lines i.lines.0 s.bus) taking_moved)
        (sym due) refl;
    stepped_is = refl;
    after_is = refl;
  }

  taking_kind : taking_stepped.kind ≡ Taken v
  unfolding taking_stepped taken answer_of
  taking_kind = refl

  taking_goes : is_stopped taking_moved.kind ≡ false
  unfolding taken
  taking_goes = refl

  entered_on : IsOn profile new entered
  unfolding entered
  entered_on = stays_on profile regs new s i taking_moved on taking_goes refl
      (ap (λ (r : List ℕ). (taken v r).regs) on.regs_are ∙ moves)

-- ## When interrupts are due

none_by : (f i : Bool) → cond (f && false) (Some (vector_of Fiq))
    (cond (i && false) (Some (vector_of Irq)) None) ≡ None
none_by true true = refl
none_by true false = refl
none_by false true = refl
none_by false false = refl

none_masked : (c : ioc.Controller) (r15 : ℕ) → is_fiq_masked r15 ≡ true → is_irq_masked r15 ≡ true
    → interrupt_of c r15 ≡ None
none_masked c r15 f i =
    ap (λ (b : Bool). cond (ioc.fiq_of c && not b) (Some (vector_of Fiq))
    (cond (ioc.irq_of c && not (is_irq_masked r15)) (Some (vector_of Irq)) None)) f
    ∙ ap (λ (b : Bool). cond (ioc.fiq_of c && false) (Some (vector_of Fiq))
    (cond (ioc.irq_of c && not b) (Some (vector_of Irq)) None)) i
    ∙ none_by (ioc.fiq_of c) (ioc.irq_of c)

or_second : (a b : Bool) → b ≡ true → (a || b) ≡ true
or_second true b is = refl
or_second false b is = is

-- ## The run

-- R14 of IRQ mode, of SVC mode, and R15
abbrev program_regs : (r15 : ℕ) → List ℕ
program_regs r15 = replicate 23 0 ++ 0x3800007 ∷ 0 ∷ 0xF800006 ∷ r15 ∷ []

abbrev fiq_regs : List ℕ
fiq_regs = replicate 21 0 ++ 0x3800007 ∷ 0 ∷ 0x3800007 ∷ 0 ∷ 0xF800006 ∷ 0xC00001D ∷ []

abbrev irq_regs : List ℕ
irq_regs = program_regs 0x800001A

-- after the handler
abbrev left_regs : List ℕ → List ℕ
left_regs regs =
    (instruction_moved instr 0 regs (record { memc = memory; ioc = ioc.fresh; vidc = vidc.fresh })).regs

-- in SVC mode with both interrupts masked, and then in IRQ mode
from_svc : Returns (program_regs 0xF800003) (program_regs 0xF800002)
unfolding memory instr operation_effect data_immediate_effect outcome_effect jumped operands.word_of bits_from
from_svc = record { fetches = refl; moves = λ port bus. refl }

from_irq : Returns (program_regs 0xF800002) (program_regs 0x3800003)
unfolding memory instr operation_effect data_immediate_effect outcome_effect jumped operands.word_of bits_from
from_irq = record { fetches = refl; moves = λ port bus. refl }

handler_regs : Interrupt → List ℕ
handler_regs Fiq = fiq_regs
handler_regs Irq = irq_regs

abbrev entry_of : Interrupt → ℕ
entry_of Fiq = 0x1C
entry_of Irq = 0x18

abbrev lines_of : Interrupt → ℕ
lines_of Fiq = 0x10000
lines_of Irq = 0x200

takes_regs : (interrupt : Interrupt)
    → (taken (vector_of interrupt) (program_regs 0x3800003)).regs ≡ handler_regs interrupt
unfolding taken handler_regs
takes_regs Fiq = refl
takes_regs Irq = refl

handles : (interrupt : Interrupt) → Returns (handler_regs interrupt) (left_regs (handler_regs interrupt))
unfolding memory handler_regs instr operation_effect data_immediate_effect outcome_effect jumped
    operands.word_of bits_from
handles Fiq = record { fetches = refl; moves = λ port bus. refl }
handles Irq = record { fetches = refl; moves = λ port bus. refl }

handler_long : (interrupt : Interrupt) → length (handler_regs interrupt) ≡ 27
unfolding handler_regs
handler_long Fiq = refl
handler_long Irq = refl

handler_at : (interrupt : Interrupt) → address_of (r15_in (handler_regs interrupt)) ≡ entry_of interrupt
unfolding handler_regs
handler_at Fiq = refl
handler_at Irq = refl

abbrev input : ℕ → Input
input lines = record { bursts = 0; lines = record { 0 = lines }; port = 0 }

module _ (profile : Profile) (interrupt : Interrupt) where
  -- a step before others
  goes_before : (s : State) (i : Input) (rest : List Input) (stepped : Stepped) (next : State) (more : Ran)
      (after : State) → Step s i stepped next → why_stopped stepped.kind ≡ None → Runs next rest more after
      → Runs s (i ∷ rest) (counted s.profile.burst i stepped more) after
  goes_before s i rest stepped next more after step plain runs = (
    stepped,
    next,
    step,
    subst (λ w. Ends w s (counted s.profile.burst i stepped more) after ((r : Ran) × Runs next rest r after
        × (counted s.profile.burst i stepped more ≡ counted s.profile.burst i stepped r))) (sym plain)
        (more, runs, refl),
  )

  -- FIQ's line alone makes FIQ active, and IRQ's line IRQ
  asks_fiq : (c : ioc.Controller) → c.lines ≡ 0x10000 → c.mask_f ≡ 1 → is_active Fiq c ≡ true
  asks_fiq c lines mask =
      ap (λ (n : ℕ). ioc.shares (n / 0x10000 % 0x40 + n / 0x100 % 2 * 0x40 + 0x80) c.mask_f) lines
      ∙ ap (λ (m : ℕ). ioc.shares 0x81 m) mask

  no_fiq : (c : ioc.Controller) → c.lines ≡ 0x200 → c.mask_f ≡ 1 → ioc.fiq_of c ≡ false
  no_fiq c lines mask =
      ap (λ (n : ℕ). ioc.shares (n / 0x10000 % 0x40 + n / 0x100 % 2 * 0x40 + 0x80) c.mask_f) lines
      ∙ ap (λ (m : ℕ). ioc.shares 0x80 m) mask

  asks_irq : (c : ioc.Controller) → c.lines ≡ 0x200 → c.mask_b ≡ 2 → is_active Irq c ≡ true
  asks_irq c lines mask =
      or_second (ioc.shares (ioc.status_a c) c.mask_a) (ioc.shares (ioc.status_b c) c.mask_b)
      (ap (λ (n : ℕ). ioc.shares (n / 0x100 % 0x100) c.mask_b) lines ∙ ap (λ (m : ℕ). ioc.shares 2 m) mask)

-- with F and I clear, the interrupt is due by its line
due_by : (interrupt : Interrupt) (profile : Profile) (c : ioc.Controller) → c.lines ≡ lines_of interrupt
    → c.mask_b ≡ 2 → c.mask_f ≡ 1 → interrupt_of c 0x3800003 ≡ Some (vector_of interrupt)
due_by Fiq profile c lines mask_b mask_f = is_due Fiq c 0x3800003 (asks_fiq profile Fiq c lines mask_f) refl
due_by Irq profile c lines mask_b mask_f =
    is_due Irq c 0x3800003 (asks_irq profile Irq c lines mask_b)
    (ap (λ (b : Bool). is_irq_masked 0x3800003 || (b && not (is_fiq_masked 0x3800003)))
    (no_fiq profile Irq c lines mask_f))

-- the handler is not interrupted
handler_free : (interrupt : Interrupt) (profile : Profile) (c : ioc.Controller) → c.lines ≡ lines_of interrupt
    → c.mask_f ≡ 1 → interrupt_of c (r15_in (handler_regs interrupt)) ≡ None
unfolding handler_regs
handler_free Fiq profile c lines mask_f = none_masked c 0xC00001D refl refl
handler_free Irq profile c lines mask_f =
    ap (λ (f : Bool). cond (f && not (is_fiq_masked 0x800001A)) (Some (vector_of Fiq))
    (cond (ioc.irq_of c && not (is_irq_masked 0x800001A)) (Some (vector_of Irq)) None))
    (no_fiq profile Irq c lines mask_f)
    ∙ none_by false (ioc.irq_of c)

-- while it waits the interrupt is held back
held_by : (interrupt : Interrupt) (c : ioc.Controller) → is_held_back interrupt c 0xF800002 ≡ true
held_by Fiq c = refl
held_by Irq c = refl

module _ (profile : Profile) (interrupt : Interrupt) where
  abbrev asking : Input
  asking = input (lines_of interrupt)

  start : State
  start = record {
    regs = program_regs 0xF800003;
    bus = record { memc = memory; ioc = record ioc.fresh { mask_b = 2; mask_f = 1 }; vidc = vidc.fresh };
    profile = profile;
  }

  start_on : IsOn profile (program_regs 0xF800003) start
  unfolding start
  start_on = record { regs_are = refl; memory_is = refl; prices = refl; mask_b = refl; mask_f = refl }

  -- an interrupt is due by a machine's registers
  due_in : (regs : List ℕ) (s : State) (i : Input) (due : Option Vector) → IsOn profile regs s
      → interrupt_of (with_lines i.lines.0 s.bus).ioc (r15_in regs) ≡ due
      → interrupt_due (with_lines i.lines.0 s.bus) (r15_in s.regs) ≡ due
  due_in regs s i due on is =
      ap (λ (r : List ℕ). interrupt_of (with_lines i.lines.0 s.bus).ioc (r15_in r)) on.regs_are ∙ is

  first_free : interrupt_due (with_lines 0 start.bus) (r15_in start.regs) ≡ None
  first_free = due_in (program_regs 0xF800003) start (input 0) None start_on
      (none_masked (with_lines 0 start.bus).ioc 0xF800003 refl refl)

  abbrev risen : State
  risen = after profile (program_regs 0xF800003) (program_regs 0xF800002) start
      (input 0) start_on from_svc first_free

  risen_on : IsOn profile (program_regs 0xF800002) risen
  risen_on = after_on profile (program_regs 0xF800003) (program_regs 0xF800002) start
      (input 0) start_on from_svc first_free

  second_free : interrupt_due (with_lines (lines_of interrupt) risen.bus) (r15_in risen.regs) ≡ None
  second_free =
      due_in (program_regs 0xF800002) risen asking None risen_on
      (none_masked (with_lines (lines_of interrupt) risen.bus).ioc 0xF800002 refl refl)

  abbrev unmasked : State
  unmasked = after profile (program_regs 0xF800002) (program_regs 0x3800003) risen asking risen_on from_irq
      second_free

  unmasked_on : IsOn profile (program_regs 0x3800003) unmasked
  unmasked_on =
      after_on profile (program_regs 0xF800002) (program_regs 0x3800003) risen asking risen_on from_irq
      second_free

  third_due : interrupt_due (with_lines (lines_of interrupt) unmasked.bus) (r15_in unmasked.regs) ≡ Some
      (vector_of interrupt)
  third_due =
      due_in (program_regs 0x3800003) unmasked asking (Some (vector_of interrupt)) unmasked_on
      (due_by interrupt profile (with_lines (lines_of interrupt) unmasked.bus).ioc refl unmasked_on.mask_b
      unmasked_on.mask_f)

  abbrev inside : State
  inside = entered profile (program_regs 0x3800003) (handler_regs interrupt) unmasked asking unmasked_on
      (vector_of interrupt) (takes_regs interrupt) third_due

  inside_on : IsOn profile (handler_regs interrupt) inside
  inside_on = entered_on profile (program_regs 0x3800003) (handler_regs interrupt) unmasked asking unmasked_on
      (vector_of interrupt) (takes_regs interrupt) third_due

  fourth_free : interrupt_due (with_lines (lines_of interrupt) inside.bus) (r15_in inside.regs) ≡ None
  fourth_free = due_in (handler_regs interrupt) inside asking None inside_on
      (handler_free interrupt profile (with_lines (lines_of interrupt) inside.bus).ioc refl inside_on.mask_f)

  abbrev service : Service
  service = record { in_progress = input 0; waiting = asking ∷ []; taking = asking; handling = asking ∷ [] }

  abbrev first_stepped : Stepped
  first_stepped = stepped profile (program_regs 0xF800003) (program_regs 0xF800002) start
      (input 0) start_on from_svc first_free

  first_step : Step start (input 0) first_stepped risen
  first_step = step profile (program_regs 0xF800003) (program_regs 0xF800002) start
      (input 0) start_on from_svc first_free

  first_goes : why_stopped first_stepped.kind ≡ None
  first_goes = goes_on profile (program_regs 0xF800003) (program_regs 0xF800002) start
      (input 0) start_on from_svc first_free

  abbrev second_stepped : Stepped
  second_stepped =
      stepped profile (program_regs 0xF800002) (program_regs 0x3800003) risen asking risen_on from_irq
      second_free

  second_step : Step risen asking second_stepped unmasked
  second_step = step profile (program_regs 0xF800002) (program_regs 0x3800003) risen asking risen_on from_irq
      second_free

  second_goes : why_stopped second_stepped.kind ≡ None
  second_goes =
      goes_on profile (program_regs 0xF800002) (program_regs 0x3800003) risen asking risen_on from_irq
      second_free

  second_held : is_held_back_at interrupt risen asking ≡ true
  second_held =
      ap (λ (r : List ℕ). is_held_back interrupt (with_lines (lines_of interrupt) risen.bus).ioc (r15_in r))
      risen_on.regs_are ∙ held_by interrupt (with_lines (lines_of interrupt) risen.bus).ioc

  abbrev third_stepped : Stepped
  third_stepped =
      taking_stepped profile (program_regs 0x3800003) (handler_regs interrupt) unmasked asking unmasked_on
      (vector_of interrupt) (takes_regs interrupt) third_due

  third_step : Step unmasked asking third_stepped inside
  third_step =
      taking_step profile (program_regs 0x3800003) (handler_regs interrupt) unmasked asking unmasked_on
      (vector_of interrupt) (takes_regs interrupt) third_due

  third_kind : third_stepped.kind ≡ Taken (vector_of interrupt)
  third_kind =
      taking_kind profile (program_regs 0x3800003) (handler_regs interrupt) unmasked asking unmasked_on
      (vector_of interrupt) (takes_regs interrupt) third_due

  abbrev fourth_stepped : Stepped
  fourth_stepped = stepped profile (handler_regs interrupt) (left_regs (handler_regs interrupt)) inside asking
      inside_on (handles interrupt) fourth_free

  abbrev left : State
  left = after profile (handler_regs interrupt) (left_regs (handler_regs interrupt)) inside asking inside_on
      (handles interrupt) fourth_free

  fourth_step : Step inside asking fourth_stepped left
  fourth_step =
      step profile (handler_regs interrupt) (left_regs (handler_regs interrupt)) inside asking inside_on
      (handles interrupt) fourth_free

  fourth_goes : why_stopped fourth_stepped.kind ≡ None
  fourth_goes = goes_on profile (handler_regs interrupt) (left_regs (handler_regs interrupt)) inside asking
      inside_on (handles interrupt) fourth_free

  abbrev entry : ℕ
  entry = entry_of interrupt

  serves : Serves (words entry profile) (stated entry profile) (flow entry profile) interrupt entry
      (second_stepped.ticks + 0) start service
  unfolding flow edge
  serves = record {
    in_progress = first_stepped;
    risen = risen;
    progresses = record {
      registers = ap (λ (r : List ℕ). length r) start_on.regs_are;
      pages = subst (λ (m : Memory). IsShift m.shift) (sym start_on.memory_is) memory_pages;
      prices = start_on.prices;
      step = first_step;
      goes_on = first_goes;
    };
    waited = second_stepped.ticks + 0;
    unmasked = unmasked;
    waits = (second_stepped, unmasked, second_step, second_goes, second_held, (0, (refl, refl), refl));
    waited_most = omega arith;
    taking = third_stepped;
    entered = inside;
    takes = third_step;
    taken = third_kind;
    walk = [];
    place = At [] entry;
    comes = record {
      leads = refl;
      kept = keeps_bounds entry profile;
      before = All-nil (λ (e : Edge). is_at entry e.from ≡ false);
      there = eq-eqb entry entry refl;
    };
    last = edge entry profile;
    is_edge = (0, lit< tt, refl);
    from = refl;
    follows = follows profile (handler_regs interrupt) (left_regs (handler_regs interrupt)) inside asking
        inside_on (handles interrupt) fourth_free entry (handler_long interrupt) (handler_at interrupt);
  }

  ran : Ran
  ran =
      counted start.profile.burst (input 0) first_stepped
      (counted risen.profile.burst asking second_stepped
      (counted unmasked.profile.burst asking third_stepped
      (counted inside.profile.burst asking fourth_stepped (at_rest None))))

  runs : Runs start (inputs_of service) ran left
  unfolding ran
  runs =
      goes_before profile interrupt start (input 0) (asking ∷ asking ∷ asking ∷ []) first_stepped risen _ left
      first_step first_goes
      (goes_before profile interrupt risen asking (asking ∷ asking ∷ []) second_stepped unmasked _ left
      second_step second_goes
      (goes_before profile interrupt unmasked asking (asking ∷ []) third_stepped inside _ left third_step
      (ap why_stopped third_kind)
      (goes_before profile interrupt inside asking [] fourth_stepped left (at_rest None) left fourth_step
      fourth_goes (refl, refl))))

-- the line rises during the first step
low_before : (profile : Profile) (interrupt : Interrupt) → is_active_at interrupt (start profile interrupt)
    (input 0) ≡ false
unfolding start
low_before profile Fiq = refl
low_before profile Irq = refl

asks : (interrupt : Interrupt) (profile : Profile) (c : ioc.Controller) → c.lines ≡ lines_of interrupt
    → c.mask_b ≡ 2 → c.mask_f ≡ 1 → is_active interrupt c ≡ true
asks Fiq profile c lines mask_b mask_f = asks_fiq profile Fiq c lines mask_f
asks Irq profile c lines mask_b mask_f = asks_irq profile Irq c lines mask_b

active_after : (profile : Profile) (interrupt : Interrupt) → is_active_at interrupt (risen profile interrupt)
    (asking profile interrupt) ≡ true
active_after profile interrupt =
    asks interrupt profile (with_lines (lines_of interrupt) (risen profile interrupt).bus).ioc refl
    (risen_on profile interrupt).mask_b (risen_on profile interrupt).mask_f

pub served : (profile : Profile) (interrupt : Interrupt) → HasService profile interrupt
unfolding serves
served profile interrupt = record {
  words = words (entry_of interrupt) profile;
  stated = stated (entry_of interrupt) profile;
  flow = flow (entry_of interrupt) profile;
  graph_is = graph_is (entry_of interrupt) profile;
  address = entry_of interrupt;
  masked = (second_stepped profile interrupt).ticks + 0;
  s = start profile interrupt;
  service = service profile interrupt;
  serves = serves profile interrupt;
  waiting = asking profile interrupt;
  waits = refl;
  low_before = low_before profile interrupt;
  active_after = active_after profile interrupt;
  ran = ran profile interrupt;
  after = left profile interrupt;
  runs = runs profile interrupt;
}

-- ## A run with a visit

-- back from FIQ's handler, and then in IRQ's
abbrev back_regs : List ℕ
back_regs = replicate 21 0 ++ 0x3800007 ∷ 0 ∷ 0x3800007 ∷ 0 ∷ 0xF800006 ∷ 0x3800003 ∷ []

abbrev visited_regs : List ℕ
visited_regs = replicate 21 0 ++ 0x3800007 ∷ 0 ∷ 0x3800007 ∷ 0 ∷ 0xF800006 ∷ 0x800001A ∷ []

from_fiq : Returns (handler_regs Fiq) back_regs
unfolding memory handler_regs instr operation_effect data_immediate_effect outcome_effect jumped
    operands.word_of bits_from
from_fiq = record { fetches = refl; moves = λ port bus. refl }

takes_visited : (taken (vector_of Irq) back_regs).regs ≡ visited_regs
unfolding taken
takes_visited = refl

handles_visited : Returns visited_regs (left_regs visited_regs)
unfolding memory instr operation_effect data_immediate_effect outcome_effect jumped operands.word_of bits_from
handles_visited = record { fetches = refl; moves = λ port bus. refl }

visited_free : (profile : Profile) (c : ioc.Controller) → c.lines ≡ lines_of Irq → c.mask_f ≡ 1
    → interrupt_of c (r15_in visited_regs) ≡ None
unfolding handler_regs
visited_free profile c lines mask_f = handler_free Irq profile c lines mask_f

module _ (profile : Profile) where
  abbrev fiq_input : Input
  fiq_input = input (lines_of Fiq)

  abbrev irq_input : Input
  irq_input = input (lines_of Irq)

  abbrev ready : State
  ready = unmasked profile Irq

  ready_on : IsOn profile (program_regs 0x3800003) (unmasked profile Irq)
  ready_on = unmasked_on profile Irq

  fiq_due : interrupt_due (with_lines (lines_of Fiq) ready.bus) (r15_in ready.regs) ≡ Some (vector_of Fiq)
  fiq_due =
      due_in profile Irq (program_regs 0x3800003) ready fiq_input (Some (vector_of Fiq)) ready_on
      (due_by Fiq profile (with_lines (lines_of Fiq) ready.bus).ioc refl ready_on.mask_b ready_on.mask_f)

  abbrev in_fiq : State
  in_fiq = entered profile (program_regs 0x3800003) (handler_regs Fiq) ready fiq_input ready_on
      (vector_of Fiq) (takes_regs Fiq) fiq_due

  in_fiq_on : IsOn profile (handler_regs Fiq) in_fiq
  in_fiq_on = entered_on profile (program_regs 0x3800003) (handler_regs Fiq) ready fiq_input ready_on
      (vector_of Fiq) (takes_regs Fiq) fiq_due

  fiq_free : interrupt_due (with_lines (lines_of Fiq) in_fiq.bus) (r15_in in_fiq.regs) ≡ None
  fiq_free = due_in profile Irq (handler_regs Fiq) in_fiq fiq_input None in_fiq_on
      (handler_free Fiq profile (with_lines (lines_of Fiq) in_fiq.bus).ioc refl in_fiq_on.mask_f)

  abbrev returned : State
  returned = after profile (handler_regs Fiq) back_regs in_fiq fiq_input in_fiq_on from_fiq fiq_free

  returned_on : IsOn profile back_regs returned
  returned_on = after_on profile (handler_regs Fiq) back_regs in_fiq fiq_input in_fiq_on from_fiq fiq_free

  irq_due : interrupt_due (with_lines (lines_of Irq) returned.bus) (r15_in returned.regs) ≡ Some
      (vector_of Irq)
  irq_due =
      due_in profile Irq back_regs returned irq_input (Some (vector_of Irq)) returned_on
      (due_by Irq profile (with_lines (lines_of Irq) returned.bus).ioc refl returned_on.mask_b
      returned_on.mask_f)

  abbrev in_irq : State
  in_irq = entered profile back_regs visited_regs returned irq_input returned_on
      (vector_of Irq) takes_visited irq_due

  in_irq_on : IsOn profile visited_regs in_irq
  in_irq_on = entered_on profile back_regs visited_regs returned irq_input returned_on
      (vector_of Irq) takes_visited irq_due

  irq_free : interrupt_due (with_lines (lines_of Irq) in_irq.bus) (r15_in in_irq.regs) ≡ None
  irq_free = due_in profile Irq visited_regs in_irq irq_input None in_irq_on
      (visited_free profile (with_lines (lines_of Irq) in_irq.bus).ioc refl in_irq_on.mask_f)

  abbrev gone : State
  gone = after profile visited_regs (left_regs visited_regs) in_irq irq_input in_irq_on handles_visited
      irq_free

  abbrev fiq_taking : Stepped
  fiq_taking = taking_stepped profile (program_regs 0x3800003) (handler_regs Fiq) ready fiq_input ready_on
      (vector_of Fiq) (takes_regs Fiq) fiq_due

  fiq_taken : Step ready fiq_input fiq_taking in_fiq
  fiq_taken = taking_step profile (program_regs 0x3800003) (handler_regs Fiq) ready fiq_input ready_on
      (vector_of Fiq) (takes_regs Fiq) fiq_due

  fiq_kind : fiq_taking.kind ≡ Taken (vector_of Fiq)
  fiq_kind = taking_kind profile (program_regs 0x3800003) (handler_regs Fiq) ready fiq_input ready_on
      (vector_of Fiq) (takes_regs Fiq) fiq_due

  abbrev fiq_stepped : Stepped
  fiq_stepped = stepped profile (handler_regs Fiq) back_regs in_fiq fiq_input in_fiq_on from_fiq fiq_free

  fiq_step : Step in_fiq fiq_input fiq_stepped returned
  fiq_step = step profile (handler_regs Fiq) back_regs in_fiq fiq_input in_fiq_on from_fiq fiq_free

  fiq_goes : why_stopped fiq_stepped.kind ≡ None
  fiq_goes = goes_on profile (handler_regs Fiq) back_regs in_fiq fiq_input in_fiq_on from_fiq fiq_free

  abbrev irq_taking : Stepped
  irq_taking = taking_stepped profile back_regs visited_regs returned irq_input returned_on
      (vector_of Irq) takes_visited irq_due

  irq_taken : Step returned irq_input irq_taking in_irq
  irq_taken = taking_step profile back_regs visited_regs returned irq_input returned_on
      (vector_of Irq) takes_visited irq_due

  irq_kind : irq_taking.kind ≡ Taken (vector_of Irq)
  irq_kind = taking_kind profile back_regs visited_regs returned irq_input returned_on
      (vector_of Irq) takes_visited irq_due

  abbrev irq_stepped : Stepped
  irq_stepped =
      stepped profile visited_regs (left_regs visited_regs) in_irq irq_input in_irq_on handles_visited
      irq_free

  irq_step : Step in_irq irq_input irq_stepped gone
  irq_step = step profile visited_regs (left_regs visited_regs) in_irq irq_input in_irq_on handles_visited
      irq_free

  irq_goes : why_stopped irq_stepped.kind ≡ None
  irq_goes = goes_on profile visited_regs (left_regs visited_regs) in_irq irq_input in_irq_on handles_visited
      irq_free

  abbrev visit : Visit
  visit = record { taking = fiq_input; handling = fiq_input ∷ [] }

  abbrev KeepsFiq : State → List Input → Type 0
  KeepsFiq = KeepsStated (words 0x1C profile) (stated 0x1C profile) profile (flow 0x1C profile)

  fiq_keeps : KeepsFiq in_fiq (fiq_input ∷ [])
  unfolding flow edge
  fiq_keeps = record {
    walk = edge 0x1C profile ∷ [];
    complete = ((0, lit< tt, refl), refl, refl);
    kept = λ i is. absurd (no_member is.stated_loop is.stated);
    follows = follows profile (handler_regs Fiq) back_regs in_fiq fiq_input in_fiq_on from_fiq fiq_free 0x1C
        (handler_long Fiq) (handler_at Fiq);
  }

  visit_is : IsVisit KeepsFiq profile ready visit returned
  visit_is = record {
    stepped = fiq_taking;
    entered = in_fiq;
    step = fiq_taken;
    takes_fiq = fiq_kind;
    prices = ready_on.prices;
    keeps = fiq_keeps;
    ran = counted in_fiq.profile.burst fiq_input fiq_stepped (at_rest None);
    runs = goes_before profile Irq in_fiq fiq_input [] fiq_stepped returned (at_rest None) returned fiq_step
        fiq_goes (refl, refl);
    back = ap (λ (r : List ℕ). address_of (r15_in r)) returned_on.regs_are
        ∙ sym (ap (λ (r : List ℕ). address_of (r15_in r)) ready_on.regs_are);
  }

  abbrev visited_service : VisitedService
  visited_service = record {
    in_progress = input 0;
    waiting = record { visits = []; input = irq_input } ∷ [];
    taking = record { visits = visit ∷ []; input = irq_input };
    handling = record { visits = []; input = irq_input } ∷ [];
  }

  serves_visited : ServesVisited (words 0x18 profile) (words 0x1C profile) (stated 0x18 profile)
      (stated 0x1C profile) (flow 0x18 profile) (flow 0x1C profile) 0x18
      ((second_stepped profile Irq).ticks + 0) (start profile Irq) visited_service
  unfolding flow edge serves
  serves_visited =
      let f = follows profile visited_regs (left_regs visited_regs) in_irq irq_input in_irq_on handles_visited
      irq_free 0x18 refl refl in
      record {
        in_progress = first_stepped profile Irq;
        risen = risen profile Irq;
        progresses = (serves profile Irq).progresses;
        waited = (second_stepped profile Irq).ticks + 0;
        unmasked = ready;
        waits = (
          risen profile Irq,
          refl,
          (
            second_stepped profile Irq,
            ready,
            second_step profile Irq,
            second_goes profile Irq,
            second_held profile Irq,
            (0, (refl, refl), refl),
          ),
        );
        waited_most = omega arith;
        visited = returned;
        visits = (returned, visit_is, refl);
        taking = irq_taking;
        entered = in_irq;
        takes = irq_taken;
        taken = irq_kind;
        walk = [];
        place = At [] 0x18;
        comes = (serves profile Irq).comes;
        last = edge 0x18 profile;
        is_edge = (0, lit< tt, refl);
        from = refl;
        follows = (in_irq, refl, (f.0, f.1, f.2, tt));
      }

  visited_ran : Ran
  visited_ran =
      counted (start profile Irq).profile.burst (input 0) (first_stepped profile Irq)
      (counted (risen profile Irq).profile.burst irq_input (second_stepped profile Irq)
      (counted ready.profile.burst fiq_input fiq_taking
      (counted in_fiq.profile.burst fiq_input fiq_stepped
      (counted returned.profile.burst irq_input irq_taking
      (counted in_irq.profile.burst irq_input irq_stepped (at_rest None))))))

  visited_runs : Runs (start profile Irq) (service_inputs visited_service) visited_ran gone
  unfolding visited_ran
  visited_runs =
      goes_before profile Irq (start profile Irq) (input 0)
      (irq_input ∷ fiq_input ∷ fiq_input ∷ irq_input ∷ irq_input ∷ []) (first_stepped profile Irq)
      (risen profile Irq) _ gone (first_step profile Irq) (first_goes profile Irq)
      (goes_before profile Irq (risen profile Irq) irq_input
      (fiq_input ∷ fiq_input ∷ irq_input ∷ irq_input ∷ []) (second_stepped profile Irq) ready _ gone
      (second_step profile Irq) (second_goes profile Irq)
      (goes_before profile Irq ready fiq_input (fiq_input ∷ irq_input ∷ irq_input ∷ []) fiq_taking in_fiq _
      gone fiq_taken (ap why_stopped fiq_kind)
      (goes_before profile Irq in_fiq fiq_input (irq_input ∷ irq_input ∷ []) fiq_stepped returned _ gone
      fiq_step fiq_goes
      (goes_before profile Irq returned irq_input (irq_input ∷ []) irq_taking in_irq _ gone irq_taken
      (ap why_stopped irq_kind)
      (goes_before profile Irq in_irq irq_input [] irq_stepped gone (at_rest None) gone irq_step irq_goes
      (refl, refl))))))

pub served_visited : (profile : Profile) → HasVisitedService profile
unfolding serves_visited
served_visited profile = record {
  words = words 0x18 profile;
  fiq_words = words 0x1C profile;
  irq = stated 0x18 profile;
  fiq = stated 0x1C profile;
  flow = flow 0x18 profile;
  fiq_flow = flow 0x1C profile;
  graph_is = graph_is 0x18 profile;
  fiq_graph_is = graph_is 0x1C profile;
  fiq_entry_is = refl;
  address = 0x18;
  masked = (second_stepped profile Irq).ticks + 0;
  s = start profile Irq;
  service = visited_service profile;
  serves = serves_visited profile;
  one = refl;
  ran = visited_ran profile;
  after = gone profile;
  runs = visited_runs profile;
}

-- ## What its steps are

-- the kinds of the steps by these inputs
abbrev pub HaveKinds : State → List Input → List Kind → Type 0
HaveKinds s [] [] = Unit {0}
HaveKinds s [] (k ∷ kinds) = ⊥
HaveKinds s (i ∷ inputs) [] = ⊥
HaveKinds s (i ∷ inputs) (k ∷ kinds) =
    (stepped : Stepped) × (next : State) × Step s i stepped next × (stepped.kind ≡ k)
    × HaveKinds next inputs kinds

pub record HasVisitedKinds (profile : Profile) (kinds : List Kind) : Type 0 where
  pub has : HasVisitedService profile
  pub kinds_are : HaveKinds has.s (service_inputs has.service) kinds

pub served_kinds : (profile : Profile)
    → HasVisitedKinds profile
    (Plain ∷ Plain ∷ Taken (vector_of Fiq) ∷ Plain ∷ Taken (vector_of Irq) ∷ Plain ∷ [])
unfolding served_visited
served_kinds profile = record {
  has = served_visited profile;
  kinds_are = (
    first_stepped profile Irq,
    risen profile Irq,
    first_step profile Irq,
    plain profile (program_regs 0xF800003) (program_regs 0xF800002) (start profile Irq) (input 0)
        (start_on profile Irq) from_svc (first_free profile Irq),
    (
      second_stepped profile Irq,
      ready profile,
      second_step profile Irq,
      plain profile (program_regs 0xF800002) (program_regs 0x3800003) (risen profile Irq) (irq_input profile)
          (risen_on profile Irq) from_irq (second_free profile Irq),
      (
        fiq_taking profile,
        in_fiq profile,
        fiq_taken profile,
        fiq_kind profile,
        (
          fiq_stepped profile,
          returned profile,
          fiq_step profile,
          plain profile (handler_regs Fiq) back_regs (in_fiq profile) (fiq_input profile)
              (in_fiq_on profile) from_fiq (fiq_free profile),
          (
            irq_taking profile,
            in_irq profile,
            irq_taken profile,
            irq_kind profile,
            (
              irq_stepped profile,
              gone profile,
              irq_step profile,
              plain profile visited_regs (left_regs visited_regs) (in_irq profile) (irq_input profile)
                  (in_irq_on profile) handles_visited (irq_free profile),
              tt,
            ),
          ),
        ),
      ),
    ),
  );
}
