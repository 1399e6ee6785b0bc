-- Runs of which not all that is stated is granted: the classes of what words load or store, and the bounds of
-- loops, are on trust at some addresses, and follow from the code at all others.
use Rattle.std.specs.Prelude.{◌≡◌, ℕ, true, List, [], ◌∷◌, length, Contains}
use Rattle.walks.specs.Greatest.{KeepsBounds}
use Rattle.walks.specs.Walk.{Leads}
use Rattle.bus_ticks.specs.declared.profile.Profile.{Profile}
use Rattle.image.specs.Image.{Words, word_of}
use Rattle.statement.specs.Stated.{Stated, StatedLoops, class_at, cycles_at, taken_at}
use Rattle.arm2_effect.specs.Modes.{r15_in}
use Rattle.arm2_effect.specs.declared.step_end.Kind.TheVariants.{Plain}
use Rattle.arm2_exec.specs.State.{State}
use Rattle.arm2_exec.specs.Step.{Step, address_in, fetched}
use Rattle.arm2_exec.specs.declared.machine.Input.{Input}
use Rattle.arm2_exec.specs.declared.machine.Stepped.{Stepped}
use Rattle.control_flow.specs.Edges.{HasAction, may_go}
use Rattle.control_flow.specs.Flow.{Flow, HasEdge, edge_shape}
use Rattle.control_flow.specs.declared.actions.Action.{Action}
use Rattle.control_flow.specs.declared.edges.Edge.{Edge}
use Rattle.control_flow.specs.declared.places.Place.{Place}
use Rattle.flow_graph.specs.StepLaw.{Follows, IsTaken, TakesWithin, TransfersIn, label_in}
use Rattle.loop_bounds.specs.Bounds.{KeepsTheBounds}
use Rattle.loop_bounds.specs.Instance.{Instance, IsInstance, place_loops}
use Rattle.known_words.specs.Given.{AreGiven}
use Rattle.known_words.specs.Knowledge.{AreWords}
use Rattle.known_words.specs.declared.given.Given.{Given}

-- the addresses of the words whose class is on trust, and of the headers of the loops whose bound is
pub record OnTrust : Type 0 where
  pub classes : List ℕ
  pub loops : List ℕ

module _ (words : Words) (st : Stated) (profile : Profile) (trusted : List ℕ) where
  -- A step that executes the image's word at its address as stated. That the words which it loads or stores
  -- are of the stated class is granted at trusted addresses alone.
  pub record ExecutesOnTrust (action : Action) (s : State) (i : Input) (stepped : Stepped)
      (after : State) : Type 0 where
    pub registers : length s.regs ≡ 27
    pub prices : s.profile ≡ profile
    pub has : HasAction words (address_in s.regs) action
    pub fetches : fetched s.bus.memc (r15_in s.regs) ≡ word_of words (address_in s.regs)
    pub step : Step s i stepped after
    pub plain : stepped.kind ≡ Plain
    pub transfers : Contains trusted (address_in s.regs)
        → TransfersIn (class_at st (address_in s.regs) action.base) step.moved.accesses
    pub cycles : TakesWithin (cycles_at st (address_in s.regs)) step.moved.accesses
    pub way : may_go (label_in s.regs action.cond) action.cond (taken_at st (address_in s.regs)) ≡ true

  -- such a step along an edge of the statement's graph
  pub record IsEdgeOnTrust (s : State) (i : Input) (stepped : Stepped) (after : State)
      (e : Edge) : Type 0 where
    pub calls : List ℕ
    pub action : Action
    pub executes : ExecutesOnTrust action s i stepped after
    pub taken : IsTaken words st profile calls action s stepped e

  -- the steps by the inputs are such steps along the edges of the walk, one each and in order
  abbrev pub GoesOnTrust : State → List Input → List Edge → Type 0
  GoesOnTrust s [] [] = Unit {0}
  GoesOnTrust s [] (e ∷ walk) = ⊥
  GoesOnTrust s (i ∷ inputs) [] = ⊥
  GoesOnTrust s (i ∷ inputs) (e ∷ walk) =
      (stepped : Stepped) × (next : State) × IsEdgeOnTrust s i stepped next e × GoesOnTrust next inputs walk

-- each stay of the walk in an instance of a stated loop whose header's address is one of these takes at most
-- the loop's bound of back edges
abbrev pub KeepsTheBoundsAt : Flow → StatedLoops → (headers : List ℕ) → List Edge → Type 0
KeepsTheBoundsAt flow loops headers walk =
    KeepsBounds edge_shape place_loops
    (λ (i : Instance). IsInstance flow loops i × Contains headers i.header) walk

-- Each run from the entry, finished or not, whose registers of the entry's mode but R15 are words of 32 bits
-- and as given at the start, that keeps the statement step by step but for its classes and its loops' bounds,
-- and keeps those on trust, keeps all of them.
abbrev pub Justifies : Words → Stated → Flow → List Given → OnTrust → Type 0
Justifies words st flow given trusted =
    (s : State) (inputs : List Input) (walk : List Edge) (place : Place) → AreWords s.regs
    → AreGiven given s.regs → Leads edge_shape (HasEdge flow) flow.entry walk place
    → KeepsTheBoundsAt flow st.loops trusted.loops walk
    → GoesOnTrust words st flow.profile trusted.classes s inputs walk
    → KeepsTheBounds flow st.loops walk × Follows words st flow.profile s inputs walk
