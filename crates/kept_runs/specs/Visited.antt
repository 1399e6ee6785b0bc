-- Runs of an interrupt handler that FIQ interrupts, and which of them keep the statements of both handlers.
use Rattle.std.specs.Prelude.{◌≡◌, ◌≢◌, ℕ, ◌+◌, ◌<◌, ◌≤◌, List, [], ◌∷◌, ◌++◌, length, take, drop, sum_by}
use Rattle.std.specs.Prelude.{Contains, slice_index_or}
use Rattle.walks.specs.Walk.{Leads}
use Rattle.bus_ticks.specs.declared.profile.Profile.{Profile}
use Rattle.image.specs.Image.{Words}
use Rattle.statement.specs.Stated.{Stated}
use Rattle.arm2_effect.specs.declared.step_end.Kind.TheVariants.{Taken}
use Rattle.arm2_effect.specs.declared.exceptions.Vector.TheVariants.{Fiq}
use Rattle.arm2_exec.specs.Run.{Runs}
use Rattle.arm2_exec.specs.State.{State}
use Rattle.arm2_exec.specs.Step.{Step, address_in}
use Rattle.arm2_exec.specs.declared.machine.Input.{Input}
use Rattle.arm2_exec.specs.declared.machine.Ran.{Ran}
use Rattle.arm2_exec.specs.declared.machine.Stepped.{Stepped}
use Rattle.control_flow.specs.declared.edges.Edge.{Edge}
use Rattle.control_flow.specs.declared.places.Place.{Place}
use Rattle.control_flow.specs.Flow.{Flow, HasEdge, edge_shape}
use Rattle.flow_graph.specs.StepLaw.{IsEdgeOf}
use Rattle.numbered_walks.specs.declared.span.Span.{Span}
use Rattle.loop_bounds.specs.Bounds.{IsCompleteWalk}
use Rattle.loop_bounds.specs.Tree.{Tree, place_in}
use Rattle.loop_bounds.specs.declared.handler.Handler.{Handler}
use Rattle.longest_walk.specs.Longest.{KeepsTree}
use Rattle.kept_runs.specs.declared.following.Unkept.{Unkept}
use Rattle.kept_runs.specs.declared.following.Unkept.TheVariants as unkept
use Rattle.kept_runs.specs.declared.following.Unkept.TheVariants.{NotAtEntry, TurnedBack, Unfinished}
use Rattle.kept_runs.specs.declared.judging.Stray.{Stray}
use Rattle.kept_runs.specs.declared.visited.VisitedRun.{VisitedRun}
use Rattle.kept_runs.specs.declared.visited.VisitedRun.TheVariants.{Kept, Strayed}
use Rattle.kept_runs.specs.declared.visited.VisitUnkept.{VisitUnkept}
use Rattle.kept_runs.specs.declared.visited.VisitUnkept.TheVariants.{InMain, InVisit, NotBack}
use Rattle.kept_runs.specs.Judging.{IsPlaceFor, Strays}
use Rattle.kept_runs.specs.Keeping.{IsAtAfter, IsStrayedRun, KeepsTo}

-- ## The inputs

-- a visit of FIQ's handler, by its inputs: that of the step that takes FIQ, and those of the handler's steps
pub record Visit : Type 0 where
  pub taking : Input
  pub handling : List Input

-- a step of the interrupted handler, and the visits before it
pub record MainStep : Type 0 where
  pub visits : List Visit
  pub input : Input

-- the inputs of all steps, in their order: of visits and then the rest, and of main steps
abbrev pub visits_before : List Visit → List Input → List Input
visits_before [] rest = rest
visits_before (v ∷ visits) rest = v.taking ∷ (v.handling ++ visits_before visits rest)

abbrev pub inputs_of : List MainStep → List Input
inputs_of [] = []
inputs_of (m ∷ steps) = visits_before m.visits (m.input ∷ inputs_of steps)

-- how many visits there are
abbrev pub visits_of : List MainStep → ℕ
visits_of steps = sum_by (λ m. length m.visits) steps

-- ## Both handlers

-- by which inputs a run from a state keeps the statement of FIQ's handler, and the prices
module _ (KeepsFiq : State → List Input → Type 0) (profile : Profile) where
  -- From this state, with these prices, a step takes FIQ, and then a run keeps the statement of FIQ's
  -- handler, whose last step leads back to the interrupted address.
  pub record IsVisit (s : State) (v : Visit) (after : State) : Type 0 where
    pub stepped : Stepped
    pub entered : State
    pub step : Step s v.taking stepped entered
    pub takes_fiq : stepped.kind ≡ Taken Fiq
    pub prices : s.profile ≡ profile
    pub keeps : KeepsFiq entered v.handling
    pub ran : Ran
    pub runs : Runs entered v.handling ran after
    pub back : address_in after.regs ≡ address_in s.regs

  -- the visits, one after another
  abbrev pub AreVisits : State → List Visit → State → Type 0
  AreVisits s [] after = after ≡ s
  AreVisits s (v ∷ visits) after = (next : State) × IsVisit s v next × AreVisits next visits after

  module _ (words : Words) (irq : Stated) where
    -- The main steps are the edges of the walk, one each and in order, each after its visits.
    abbrev pub FollowsVisited : State → List MainStep → List Edge → Type 0
    FollowsVisited s [] [] = Unit {0}
    FollowsVisited s [] (e ∷ walk) = ⊥
    FollowsVisited s (m ∷ steps) [] = ⊥
    FollowsVisited s (m ∷ steps) (e ∷ walk) =
        (visited : State) × AreVisits s m.visits visited
        × ((stepped : Stepped) × (next : State) × IsEdgeOf words irq profile visited m.input stepped next e
        × FollowsVisited next steps walk)

    -- the same, up to the state after the last main step
    abbrev pub LeadsVisited : State → List MainStep → List Edge → State → Type 0
    LeadsVisited s [] [] last = last ≡ s
    LeadsVisited s [] (e ∷ walk) last = ⊥
    LeadsVisited s (m ∷ steps) [] last = ⊥
    LeadsVisited s (m ∷ steps) (e ∷ walk) last =
        (visited : State) × AreVisits s m.visits visited
        × ((stepped : Stepped) × (next : State) × IsEdgeOf words irq profile visited m.input stepped next e
        × LeadsVisited next steps walk last)

-- ## By the loops of both

-- a handler: its words, its statement, its flow graph and the loops of that
pub record Handled : Type 0 where
  pub words : Words
  pub stated : Stated
  pub flow : Flow
  pub tree : Tree

abbrev pub handled : Handler → Handled
handled h = record { words = h.image.now; stated = h.statement; flow = h.graph; tree = h.tree }

module _ (irq fiq : Handled) where
  abbrev pub KeepsFiq : State → List Input → Type 0
  KeepsFiq = KeepsTo fiq.words fiq.stated fiq.flow fiq.tree

  -- The main steps go along a walk of the interrupted handler from the entry to Exit that keeps the loop
  -- bounds, as if there were no visits, and each visit keeps the statement of FIQ's handler.
  pub record KeepsBoth (s : State) (steps : List MainStep) : Type 0 where
    pub walk : List Edge
    pub complete : IsCompleteWalk irq.flow walk
    pub kept : KeepsTree irq.tree walk
    pub follows : FollowsVisited KeepsFiq irq.flow.profile irq.words irq.stated s steps walk

  -- so many of the inputs make such a run, of so many ticks, with so many visits
  pub record IsKeptVisited (s : State) (inputs : List Input) (steps ticks visits : ℕ)
      (after : State) : Type 0 where
    pub few : steps ≤ length inputs
    pub main : List MainStep
    pub inputs_are : inputs_of main ≡ take steps inputs
    pub keeps : KeepsBoth s main
    pub visits_are : visits_of main ≡ visits
    pub ran : Ran
    pub runs : Runs s (take steps inputs) ran after
    pub steps_are : ran.steps ≡ steps
    pub ticks_are : ran.ticks ≡ ticks

  -- ## Runs that do not

  -- no number of the inputs makes such a run
  abbrev pub KeepsBothNever : State → List Input → Type 0
  KeepsBothNever s inputs =
      (n : ℕ) (main : List MainStep) → inputs_of main ≡ take n inputs → KeepsBoth s main → ⊥

  -- so many steps are main steps along a walk of the interrupted handler from the entry to the place where
  -- the machine is, which keeps the loop bounds, and then visits
  pub record ComesTo (s : State) (inputs : List Input) (steps : ℕ) (place : Place)
      (now : State) : Type 0 where
    pub few : steps ≤ length inputs
    pub walk : List Edge
    pub leads : Leads edge_shape (HasEdge irq.flow) irq.flow.entry walk place
    pub kept : KeepsTree irq.tree walk
    pub main : List MainStep
    pub last : State
    pub follows : LeadsVisited KeepsFiq irq.flow.profile irq.words irq.stated s main walk last
    pub visits : List Visit
    pub visited : AreVisits KeepsFiq irq.flow.profile last visits now
    pub inputs_are : inputs_of main ++ visits_before visits [] ≡ take steps inputs
    pub ran : Ran
    pub runs : Runs s (take steps inputs) ran now
    pub steps_are : ran.steps ≡ steps
    pub at : IsPlaceFor place now

  -- so many steps lead to a place of the interrupted handler, and the next, by this input, leads from the
  -- state `now` to the state `next`
  pub record IsStepAfter (s : State) (inputs : List Input) (steps : ℕ) (next : State) : Type 0 where
    pub place : Place
    pub now : State
    pub input : Input
    pub comes : ComesTo s inputs steps place now
    pub at : steps < length inputs
    pub input_is : slice_index_or inputs steps input ≡ input
    pub stepped : Stepped
    pub step : Step now input stepped next

  -- the step after so many takes no FIQ, and is along no edge of the place where the run is
  pub record StraysInMain (s : State) (inputs : List Input) (steps : ℕ) (after : State)
      (stray : Stray) : Type 0 where
    pub before : IsStepAfter s inputs steps after
    pub no_fiq : before.stepped.kind ≢ Taken Fiq
    pub judged : State
    pub is : Strays irq.words irq.stated irq.flow before.place before.now before.input judged stray

  -- the step after so many is along an edge to the header of the span's instance, which the loop bounds of
  -- the interrupted handler do not allow
  pub record TurnsBackInMain (s : State) (inputs : List Input) (steps : ℕ) (after : State)
      (span : Span) : Type 0 where
    pub before : IsStepAfter s inputs steps after
    pub edge : Edge
    pub is_edge_of : IsEdgeOf irq.words irq.stated irq.flow.profile before.now before.input
        before.stepped after edge
    pub from : edge.from ≡ before.place
    pub in_tree : Contains irq.tree.spans span
    pub to : edge.to ≡ place_in irq.flow irq.tree span.header
    pub broken : KeepsTree irq.tree ((before.comes).walk ++ edge ∷ []) → ⊥

  -- the step after so many takes FIQ, and leads to this state of FIQ's handler
  pub record TakesFiqAfter (s : State) (inputs : List Input) (steps : ℕ) (entered : State) : Type 0 where
    pub before : IsStepAfter s inputs steps entered
    pub takes_fiq : before.stepped.kind ≡ Taken Fiq

  -- FIQ's handler, from where FIQ is taken, does not keep its statement, for this reason
  pub record StraysInVisit (s : State) (inputs : List Input) (steps at : ℕ) (after : State)
      (why : Unkept) : Type 0 where
    pub first : ℕ
    pub entered : State
    pub takes : TakesFiqAfter s inputs first entered
    pub handling : ℕ
    pub steps_are : steps ≡ first + 1 + handling
    pub strays : IsStrayedRun fiq.words fiq.stated fiq.flow fiq.tree entered (drop (first + 1) inputs)
        handling at why after

  -- FIQ's handler keeps its statement, and leaves to another address than this one, where FIQ was taken
  pub record LeavesElsewhere (s : State) (inputs : List Input) (steps address : ℕ)
      (after : State) : Type 0 where
    pub first : ℕ
    pub entered : State
    pub takes : TakesFiqAfter s inputs first entered
    pub handling : ℕ
    pub steps_are : steps ≡ first + 1 + handling
    pub keeps : KeepsFiq entered (take handling (drop (first + 1) inputs))
    pub ran : Ran
    pub runs : Runs entered (take handling (drop (first + 1) inputs)) ran after
    pub interrupted : address ≡ address_in ((takes.before).now).regs
    pub elsewhere : address_in after.regs ≢ address

  -- Why the run after so many steps does not keep both statements. The step that strays from the interrupted
  -- handler is made in any case.
  abbrev pub IsUnkeptVisited : State → List Input → (steps at : ℕ) → State → VisitUnkept → Type 0
  IsUnkeptVisited s inputs steps at after (InMain NotAtEntry) =
      (steps ≡ 0) × (after ≡ s) × (address_in s.regs ≢ irq.stated.entry)
  IsUnkeptVisited s inputs steps at after (InMain (unkept.Stray stray)) =
      StraysInMain s inputs steps after stray
  IsUnkeptVisited s inputs steps at after (InMain (TurnedBack span)) =
      TurnsBackInMain s inputs steps after span
  IsUnkeptVisited s inputs steps at after (InMain Unfinished) =
      (steps ≡ length inputs) × ((place : Place) × ComesTo s inputs steps place after)
  IsUnkeptVisited s inputs steps at after (InVisit why) = StraysInVisit s inputs steps at after why
  IsUnkeptVisited s inputs steps at after (NotBack address) = LeavesElsewhere s inputs steps address after

  pub record IsStrayedVisited (s : State) (inputs : List Input) (steps at : ℕ) (why : VisitUnkept)
      (after : State) : Type 0 where
    pub none : KeepsBothNever s inputs
    pub ends_at : IsAtAfter s inputs steps at
    pub is : IsUnkeptVisited s inputs steps at after why

  abbrev pub IsVisitedRun : State → List Input → State → VisitedRun → Type 0
  IsVisitedRun s inputs after (Kept steps ticks visits) = IsKeptVisited s inputs steps ticks visits after
  IsVisitedRun s inputs after (Strayed steps at why) = IsStrayedVisited s inputs steps at why after
