-- A handler of one word, SUBS PC,R14,#4: its flow graph, and its step from any state.
use Rattle.std.proofs.Common.{◌≡◌, ◌∙◌, ℕ, List, [], ◌∷◌, length, true, Option, None, Some, Contains, ⊎_elim, refl, sym, ap, subst, inl, lit<}
use Rattle.std.specs.List.Sorted.{IsStrictlySortedBy}
use Rattle.std.proofs.lemmas.Option.{same_Some}
use Rattle.bus_ticks.specs.declared.profile.Profile.{Profile}
use Rattle.bus_ticks.specs.declared.profile.Class.TheVariants.{Any}
use Rattle.control_flow.proofs.SortedLemmas.{no_member}
use Rattle.control_flow.proofs.LabelLemmas.{only_one}
use Rattle.image.specs.Image.{Words, word_of}
use Rattle.arm2_decode.specs.declared.instr.Instr.{Instr}
use Rattle.arm2_decode.specs.declared.instr.Operation.TheVariants as operation
use Rattle.arm2_decode.specs.declared.names.Cond.TheVariants.{Al}
use Rattle.arm2_decode.specs.declared.names.Opcode.TheVariants.{Sub}
use Rattle.arm2_decode.specs.declared.names.Register.TheVariants.{R14, R15}
use Rattle.arm2_decode.specs.Table.{IsUnallocated, Means}
use Rattle.arm2_decode.proofs.Unique.{never_both, one_instr}
use Rattle.arm2_effect.specs.Operations.{data_immediate_effect, jumped, operation_effect, outcome_effect}
use Rattle.arm2_effect.specs.Modes.{r15_in}
use Rattle.arm2_effect.specs.ProgramCounter.{address_of}
use Rattle.arm2_effect.specs.declared.step_end.Kind.TheVariants.{Plain}
use Rattle.arm2_effect.specs.declared.exceptions.Vector.{Vector}
use Rattle.arm2_transfer.specs.Moved.{Moved}
use Rattle.arm2_exec.specs.State.{State}
use Rattle.arm2_exec.specs.Run.{Ends, Runs, counted, why_stopped}
use Rattle.arm2_exec.specs.declared.machine.Ran.{Ran}
use Rattle.arm2_exec.specs.Step.{ObeysFetched, Step, Works, address_in, answer_of, fetched, instruction_moved, interrupt_due, state_after, with_lines}
use Rattle.arm2_exec.specs.declared.machine.Input.{Input}
use Rattle.arm2_exec.specs.declared.machine.Stepped.{Stepped}
use Rattle.statement.specs.Stated.{Stated, cycles_at}
use Rattle.statement.specs.declared.stated.Returns.TheVariants.{Assumed}
use Rattle.control_flow.specs.Edges.{AreEdgesOf, HasAction, IsEdge, do_edge, word_edges}
use Rattle.control_flow.specs.Flow.{Flow, edge_shape}
use Rattle.control_flow.specs.Graph.{IsFlowGraph}
use Rattle.walks.specs.Walk.{Leads}
use Rattle.control_flow.specs.Kinds.{instr_action}
use Rattle.flow_graph.proofs.TightTicks.{onward_short, takes_within}
use Rattle.flow_graph.specs.StepLaw.{Executes, Follows, IsEdgeOf, IsTaken}
use Rattle.loop_bounds.specs.Bounds.{IsCompleteWalk, KeepsTheBounds}
use Rattle.control_flow.specs.declared.edges.Edge.{Edge}
use Rattle.control_flow.specs.declared.actions.Action.{Action}
use Rattle.control_flow.specs.declared.places.Place.{Place}
use Rattle.control_flow.specs.declared.places.Place.TheVariants.{At, Exit}

abbrev pub word : ℕ
word = 0xE25EF004

unfoldable pub instr : Instr
instr = record {
  cond = Al;
  operation = operation.DataImmediate (record { opcode = Sub; sets_flags = true; rn = R14; rd = R15; rotation = 0; value = 4; allocated = refl; rotation_fits = lit< tt; value_fits = lit< tt });
}

means : Means word instr
unfolding instr
means = record { fixed = refl; fields = refl }

-- what makes the word at the entry the next that a state carries out
pub record IsAtWord (entry : ℕ) (profile : Profile) (s : State) (i : Input) : Type 0 where
  pub registers : length s.regs ≡ 27
  pub at : address_in s.regs ≡ entry
  pub prices : s.profile ≡ profile
  pub fetches : fetched s.bus.memc (r15_in s.regs) ≡ Some word
  pub none_due : interrupt_due (with_lines i.lines.0 s.bus) (r15_in s.regs) ≡ None

-- without a burst and with all lines low
abbrev pub quiet : Input
quiet = record { bursts = 0; lines = record { 0 = 0 }; port = 0 }

-- the image has the word at the entry
module _ (words : Words) (entry : ℕ) (word_there : word_of words entry ≡ Some word) (profile : Profile) where
  abbrev pub stated : Stated
  stated =
      record {
        entry = entry;
        leave = Any;
        returns = Assumed;
        loops = record { list = []; apart = [] };
        targets = [];
        accesses = [];
        rules = [];
        multiplies = [];
        branches = [];
      }

  pub edge : Edge
  edge = do_edge stated profile [] entry (instr_action instr) Exit

  pub flow : Flow
  flow = record { entry = At [] entry; places = At [] entry ∷ []; edges = edge ∷ []; firsts = 0 ∷ 1 ∷ []; profile = profile }

  has : HasAction words entry (instr_action instr)
  has = record { word = word; word_is = word_there; is = inl (instr, means, refl) }

  is_edge : IsEdge words stated profile edge
  unfolding edge instr
  is_edge = (edge ∷ [], (instr_action instr, has, refl), (0, lit< tt, refl))

  -- ## The flow graph

  -- the word does nothing else
  one_action : (a : Action) → HasAction words entry a → a ≡ instr_action instr
  one_action a h =
      let word_is : word ≡ h.word = same_Some word h.word (sym word_there ∙ h.word_is) in
      ⊎_elim
      (λ m. m.2 ∙ ap instr_action (sym (one_instr word instr m.0 means (subst (λ (w : ℕ). Means w m.0) (sym word_is) m.1))))
      (λ u. absurd (never_both word instr u.0 means (subst (λ (w : ℕ). IsUnallocated w u.0) (sym word_is) u.1)))
      h.is

  -- the entry has the one edge, and Exit none
  one_edge : (e : Edge) → IsEdge words stated profile e → e.from ≡ At [] entry → e ≡ edge
  unfolding edge instr
  one_edge e is from =
      let are : AreEdgesOf words stated profile (At [] entry) is.0 = subst (λ (p : Place). AreEdgesOf words stated profile p is.0) from is.1 in
      let edges_are : is.0 ≡ edge ∷ [] = are.2 ∙ ap (word_edges stated profile [] entry) (one_action are.0 are.1) in
      sym (only_one edge e (subst (λ (es : List Edge). Contains es e) edges_are is.2))

  no_edge : (e : Edge) → IsEdge words stated profile e → e.from ≡ Exit → ⊥
  no_edge e is from =
      let none : is.0 ≡ [] = subst (λ (p : Place). AreEdgesOf words stated profile p is.0) from is.1 in
      no_member e (subst (λ (es : List Edge). Contains es e) none is.2)

  reached : (p : Place) (walk : List Edge) → Leads edge_shape (IsEdge words stated profile) (At [] entry) walk p → (p ≡ Exit → ⊥) → At [] entry ≡ p
  unfolding edge
  reached p [] leads inside = leads
  reached p (e ∷ []) leads inside = absurd (inside (sym leads.2 ∙ ap (λ (d : Edge). d.to) (one_edge e leads.0 leads.1)))
  reached p (e ∷ f ∷ rest) leads inside = absurd (no_edge f leads.2.0 (leads.2.1 ∙ ap (λ (d : Edge). d.to) (one_edge e leads.0 leads.1)))

  pub graph_is : IsFlowGraph words stated profile flow
  unfolding flow edge instr IsStrictlySortedBy
  graph_is = record {
    entry_is = refl;
    ordered = (tt, tt);
    exact = λ p. (
      λ has. let same = only_one (At [] entry) p has in (([], same), λ exit. cc (same ∙ exit)),
      λ r. (0, lit< tt, reached p r.0.0 r.0.1 r.1),
    );
    parts = (edge ∷ []) ∷ [];
    parts_are = ((instr_action instr, has, refl), tt);
    edges_are = refl;
    firsts_are = refl;
    profile_is = refl;
  }

  -- ## A step at the entry

  module _ (s : State) (i : Input) (ready : IsAtWord entry profile s i) where
    unfoldable pub moved : Moved
    moved = instruction_moved instr i.port s.regs (with_lines i.lines.0 s.bus)

    pub stepped : Stepped
    stepped = answer_of s moved

    unfoldable pub after : State
    after = state_after s i moved

    works : Works (interrupt_due (with_lines i.lines.0 s.bus) (r15_in s.regs)) i.port s.regs (with_lines i.lines.0 s.bus) moved
    unfolding moved
    works =
        subst (λ (due : Option Vector). Works due i.port s.regs (with_lines i.lines.0 s.bus) moved) (sym ready.none_due)
        (subst (λ (w : Option ℕ). ObeysFetched w i.port s.regs (with_lines i.lines.0 s.bus) moved) (sym ready.fetches) (inl (instr, means, refl)))

    pub step : Step s i stepped after
    unfolding stepped after
    step = record { moved = moved; works = works; stepped_is = refl; after_is = refl }

    pub plain : stepped.kind ≡ Plain
    unfolding stepped moved instr answer_of operation_effect data_immediate_effect outcome_effect jumped
    plain = refl

    executes : Executes words stated profile (instr_action instr) s i stepped after
    unfolding step stepped moved instr answer_of operation_effect data_immediate_effect outcome_effect jumped
    executes = record {
      registers = ready.registers;
      prices = ready.prices;
      has = subst (λ (a : ℕ). HasAction words a (instr_action instr)) (sym ready.at) has;
      fetches = ready.fetches ∙ sym word_there ∙ ap (word_of words) (sym ready.at);
      step = step;
      plain = plain;
      transfers = λ store first address is. tt;
      cycles =
          let most = cycles_at stated (address_in s.regs) in
          takes_within most step.moved.accesses (onward_short most (address_of (r15_in s.regs)) _);
      way = refl;
    }

    taken : IsTaken words stated profile [] (instr_action instr) s stepped edge
    unfolding edge instr
    taken = record { is_edge = is_edge; from = ap (At []) (sym ready.at); label = refl; to = tt }

    pub follows : Follows words stated profile s (i ∷ []) (edge ∷ [])
    follows = (stepped, after, record { calls = []; action = instr_action instr; executes = executes; taken = taken }, tt)

    pub is_edge_of : IsEdgeOf words stated profile s i stepped after edge
    is_edge_of = record { calls = []; action = instr_action instr; executes = executes; taken = taken }

  pub complete : IsCompleteWalk flow (edge ∷ [])
  unfolding flow edge
  complete = ((0, lit< tt, refl), refl, refl)

  pub keeps_bounds : KeepsTheBounds flow stated.loops (edge ∷ [])
  keeps_bounds = λ i is. absurd (no_member is.stated_loop is.stated)

-- ## Runs

-- a step before others
pub goes_before : (s : State) (i : Input) (rest : List Input) (stepped : Stepped) (next : State) (more : Ran) (after : State) → Step s i stepped next → why_stopped stepped.kind ≡ None → Runs next rest more after
    → Runs s (i ∷ rest) (counted s.profile.burst i stepped more) after
goes_before s i rest stepped next more after step plain runs = (
  stepped,
  next,
  step,
  subst (λ w. Ends w s (counted s.profile.burst i stepped more) after ((r : Ran) × Runs next rest r after × (counted s.profile.burst i stepped more ≡ counted s.profile.burst i stepped r))) (sym plain) (more, runs, refl),
)
