-- The machine's steps against the edges of the flow graph (by a cycle profile shaped on the VL86C010 data
-- sheet).
use Rattle.std.specs.Prelude.{◌≡◌, ◌≢◌, ℕ, ◌+◌, ◌*◌, ◌≤◌, Bool, true, if◌then◌else◌, List, [], ◌∷◌, length}
use Rattle.std.specs.Prelude.{sum_by, Contains, ◌⊎◌}
use Rattle.bus_ticks.specs.declared.profile.Class.{Class}
use Rattle.bus_ticks.specs.declared.profile.Profile.{Profile}
use Rattle.bus_ticks.specs.Worst.{IsOf}
use Rattle.image.specs.Image.{Words, word_of}
use Rattle.walks.specs.Walk.{cost_of}
use Rattle.arm2_decode.specs.Conditions.{condition_holds}
use Rattle.arm2_decode.specs.declared.flags.Flags.{Flags}
use Rattle.arm2_decode.specs.declared.names.Cond.{Cond}
use Rattle.arm2_effect.specs.Effects.{Access, Internal, Word}
use Rattle.arm2_effect.specs.Modes.{r15_in}
use Rattle.arm2_effect.specs.ProgramCounter.{flags_of}
use Rattle.arm2_effect.specs.declared.step_end.Kind.TheVariants as ended
use Rattle.arm2_exec.specs.Run.{Runs}
use Rattle.arm2_exec.specs.State.{State}
use Rattle.arm2_exec.specs.Step.{Step, address_in, fetched}
use Rattle.arm2_exec.specs.declared.machine.Input.{Input}
use Rattle.arm2_exec.specs.declared.machine.Ran.{Ran}
use Rattle.arm2_exec.specs.declared.machine.Stepped.{Stepped}
use Rattle.control_flow.specs.Edges.{HasAction, IsEdge, may_go}
use Rattle.control_flow.specs.Flow.{edge_shape}
use Rattle.control_flow.specs.Graph.{IsBuildFault, IsReached}
use Rattle.control_flow.specs.Kinds.{is_writer}
use Rattle.control_flow.specs.declared.edges.Edge.{Edge}
use Rattle.control_flow.specs.declared.edges.Label.{Label}
use Rattle.control_flow.specs.declared.edges.Label.TheVariants.{Skip, Do}
use Rattle.control_flow.specs.declared.faults.BuildFault.{BuildFault}
use Rattle.control_flow.specs.declared.faults.BuildFault.TheVariants as fault
use Rattle.control_flow.specs.declared.actions.Action.{Action}
use Rattle.control_flow.specs.declared.places.Place.{Place}
use Rattle.control_flow.specs.declared.places.Place.TheVariants.{At, Exit}
use Rattle.statement.specs.Stated.{Stated, class_at, cycles_at, taken_at}

-- whether the condition holds by the flags in R15
abbrev pub holds_in : List ℕ → Cond → Bool
holds_in regs c = condition_holds c (flags_of (r15_in regs))

-- a word is done where its condition holds by the flags, and else passed over
abbrev pub label_by : Flags → Cond → Label
label_by flags c = if condition_holds c flags then Do else Skip

-- the same by the flags in R15
abbrev pub label_in : List ℕ → Cond → Label
label_in regs c = label_by (flags_of (r15_in regs)) c

-- an address is that of the place; Exit's are all addresses of the leave class
abbrev pub IsPlaceOf : (leave : Class) → ℕ → Place → Type 0
IsPlaceOf leave t (At calls address) = address ≡ t
IsPlaceOf leave t Exit = IsOf leave t

-- each word that is transferred is at an address of the class
abbrev pub TransfersIn : Class → List Access → Type 0
TransfersIn class accesses =
    (store first : Bool) (address : ℕ) → Contains accesses (Word store first address) → IsOf class address

-- each number of internal cycles is at most this; only a multiply has more than 1
abbrev pub TakesWithin : ℕ → List Access → Type 0
TakesWithin most accesses = (cycles : ℕ) → Contains accesses (Internal cycles) → cycles ≤ most

module _ (words : Words) (st : Stated) (profile : Profile) where
  -- no refusal of the graph applies, but that memory may run out
  abbrev pub IsAccepted : Type 0
  IsAccepted = (f : BuildFault) → f ≢ fault.Memory → IsBuildFault words st profile f → ⊥

  -- A step that executes the image's word at its address as stated: it takes no exception and does not
  -- stop; its words are of the class stated for the address and the base, a multiply takes at most the stated
  -- cycles, and a word with a condition goes the stated way. The machine has 27 registers, and the prices are
  -- those of the profile.
  pub record Executes (action : Action) (s : State) (i : Input) (stepped : Stepped)
      (after : State) : Type 0 where
    pub registers : length s.regs ≡ 27
    pub prices : s.profile ≡ profile
    pub has : HasAction words (address_in s.regs) action
    pub fetches : fetched s.bus.memc (r15_in s.regs) ≡ word_of words (address_in s.regs)
    pub step : Step s i stepped after
    pub plain : stepped.kind ≡ ended.Plain
    pub transfers : TransfersIn (class_at st (address_in s.regs) action.base) step.moved.accesses
    pub cycles : TakesWithin (cycles_at st (address_in s.regs)) step.moved.accesses
    pub way : may_go (label_in s.regs action.cond) action.cond (taken_at st (address_in s.regs)) ≡ true

  -- the edge leaves the place of the step by the step's label, and ends where the step goes
  pub record IsTaken (calls : List ℕ) (action : Action) (s : State) (stepped : Stepped)
      (e : Edge) : Type 0 where
    pub is_edge : IsEdge words st profile e
    pub from : e.from ≡ At calls (address_in s.regs)
    pub label : e.label ≡ label_in s.regs action.cond
    pub to : IsPlaceOf st.leave stepped.to e.to

  -- the word writes R15, other than by a branch, and puts an address there to which no edge of the step's
  -- label leads
  pub record WritesElsewhere (calls : List ℕ) (action : Action) (s : State) (stepped : Stepped) : Type 0 where
    pub writer : is_writer action.kind ≡ true
    pub holds : holds_in s.regs action.cond ≡ true
    pub none : (e : Edge) → IsTaken calls action s stepped e → ⊥

  -- the edge is that of a step, from a place with some calls
  pub record IsEdgeOf (s : State) (i : Input) (stepped : Stepped) (after : State) (e : Edge) : Type 0 where
    pub calls : List ℕ
    pub action : Action
    pub executes : Executes action s i stepped after
    pub taken : IsTaken calls action s stepped e

  -- the steps of a run by the inputs are the edges of the walk, one each and in order
  abbrev pub Follows : State → List Input → List Edge → Type 0
  Follows s [] [] = Unit {0}
  Follows s [] (e ∷ walk) = ⊥
  Follows s (i ∷ inputs) [] = ⊥
  Follows s (i ∷ inputs) (e ∷ walk) =
      (stepped : Stepped) × (next : State) × IsEdgeOf s i stepped next e × Follows next inputs walk

-- From each place of an accepted graph, a step that executes the image's word has an edge, which costs at
-- least its ticks; but for a word that writes R15, and puts an address there to which no edge leads.
abbrev pub StepLaw : Type 0
StepLaw =
    (words : Words) (st : Stated) (profile : Profile) (calls : List ℕ) (action : Action) (s : State)
    (i : Input) (stepped : Stepped) (after : State) →
    IsAccepted words st profile → IsReached words st profile (At calls (address_in s.regs))
    → Executes words st profile action s i stepped after →
    WritesElsewhere words st profile calls action s stepped
    ⊎ ((e : Edge) × IsTaken words st profile calls action s stepped e × (stepped.ticks ≤ e.cost))

-- Each edge of a step costs at least its ticks.
abbrev pub StepCost : Type 0
StepCost =
    (words : Words) (st : Stated) (profile : Profile) (s : State) (i : Input) (stepped : Stepped)
    (after : State) (e : Edge) →
    IsEdgeOf words st profile s i stepped after e → stepped.ticks ≤ e.cost

-- the DMA bursts of some inputs
abbrev pub bursts_of : List Input → ℕ
bursts_of inputs = sum_by (λ i. i.bursts) inputs

-- a run costs at most the walk, in the processor's ticks and with those of the bursts
pub record IsWithin (profile : Profile) (walk : List Edge) (inputs : List Input) (ran : Ran) : Type 0 where
  pub ticks : ran.ticks ≤ cost_of edge_shape walk
  pub elapsed : ran.elapsed ≤ cost_of edge_shape walk + profile.burst * bursts_of inputs

-- A run whose steps are the edges of a walk costs at most the walk.
abbrev pub RunLaw : Type 0
RunLaw =
    (words : Words) (st : Stated) (profile : Profile) (s : State) (inputs : List Input) (walk : List Edge)
    (ran : Ran) (after : State) →
    Runs s inputs ran after → Follows words st profile s inputs walk → IsWithin profile walk inputs ran
