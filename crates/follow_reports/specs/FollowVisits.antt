-- Whether a machine's run keeps the statements of a handler and of FIQ's, which interrupts it.
use Rattle.std.specs.Prelude.{◌≡◌, ◌⊎◌, ℕ, ◌+◌, ◌≤◌, Bool, true, false, List, ◌++◌, length, take, drop}
use Rattle.std.specs.Prelude.{Option, Result}
use Rattle.bus_ticks.specs.declared.profile.Profile.{Profile}
use Rattle.bus_ticks.specs.declared.space.TheConstants.{FIQ_VECTOR}
use Rattle.arm2_exec.specs.Run.{Runs}
use Rattle.arm2_exec.specs.State.{State}
use Rattle.arm2_exec.specs.Step.{address_in}
use Rattle.arm2_exec.specs.declared.machine.Input.{Input}
use Rattle.arm2_exec.specs.declared.machine.Ran.{Ran}
use Rattle.longest_walk.specs.Visits.{visits_bound}
use Rattle.kept_runs.specs.Arriving.{ArrivesAfter, NeverArrives}
use Rattle.kept_runs.specs.Visited.{Handled, IsStrayedVisited, MainStep, inputs_of, visits_of}
use Rattle.kept_runs.specs.declared.visited.VisitUnkept.{VisitUnkept}
use Rattle.follow_reports.specs.FollowText.{IsLeftText, IsLineNumberAt, strayed_text}
use Rattle.follow_reports.specs.VisitedText.{kept_visits_text, never_text, visit_why_text}
use Rattle.handlers.specs.FiqHandler.{IsFiqRefused}
use Rattle.handlers.specs.Placing.{IsLoaded, IsRunRefused, IsRunnable}
use Rattle.handlers.specs.Report.{IsAccepted, IsBounded, IsRefused}
use Rattle.handlers.specs.Visits.{KeepsVisited}
use Rattle.handlers.specs.Answers.{Answers}
use Rattle.handlers.specs.declared.fault.ReportFault.{ReportFault}
use Rattle.sources.specs.File.{File}

-- a handler with its bound, in ticks
pub record BoundHandler : Type 0 where
  pub handled : Handled
  pub bound : ℕ

-- that of a source and a statement
abbrev pub bound_handler : {source : File} {statement : List ℕ} {profile : Profile}
    → IsBounded source statement profile → BoundHandler
bound_handler b = record {
  handled = record {
    words = b.accepted.loops.graph.words;
    stated = b.accepted.stated;
    flow = b.accepted.flow;
    tree = b.tree;
  };
  bound = b.longest.bound;
}

-- ## Runs from a state at the entry, by inputs that may be more than the run needs

module _ (irq fiq : BoundHandler) (profile : Profile) (s : State) (inputs : List Input) where
  -- from this state the main steps and the visits before them keep both statements
  abbrev pub KeepsStatements : List MainStep → Type 0
  KeepsStatements =
      KeepsVisited irq.handled.words fiq.handled.words fiq.handled.stated profile fiq.handled.flow
      irq.handled.stated irq.handled.flow s

  -- so many of the inputs make a run that keeps both statements, with so many visits and in so many ticks, at
  -- most the total for so many
  pub record KeepsWithinTotal (visits ticks : ℕ) : Type 0 where
    pub steps : ℕ
    pub few : steps ≤ length inputs
    pub main : List MainStep
    pub inputs_are : inputs_of main ≡ take steps inputs
    pub keeps : KeepsStatements main
    pub visits_are : visits_of main ≡ visits
    pub ran : Ran
    pub after : State
    pub runs : Runs s (take steps inputs) ran after
    pub ticks_are : ran.ticks ≡ ticks
    pub at_most : ticks ≤ visits_bound profile irq.bound fiq.bound visits

  -- no number of the inputs does
  abbrev pub NoneKeepsStatements : Type 0
  NoneKeepsStatements =
      (n : ℕ) (main : List MainStep) → inputs_of main ≡ take n inputs → KeepsStatements main → ⊥

  module _ (source : File) (before : ℕ) where
    -- how many ticks the run takes, with how many visits, and whether it goes on at a word of the source
    pub record IsKeptVisitsText (text : List ℕ) : Type 0 where
      pub visits : ℕ
      pub ticks : ℕ
      pub keeps : KeepsWithinTotal visits ticks
      pub left : List ℕ
      pub left_is : IsLeftText source irq.handled.words (address_in keeps.after.regs) left
      pub text_is : text
          ≡ kept_visits_text ticks visits (visits_bound profile irq.bound fiq.bound visits) ++ left

    -- after how many steps, with those before the entry, where and why the first one strays
    pub record IsStrayedVisitsText (text : List ℕ) : Type 0 where
      pub steps : ℕ
      pub at : ℕ
      pub why : VisitUnkept
      pub after : State
      pub line : Option ℕ
      pub none : NoneKeepsStatements
      pub strays : IsStrayedVisited irq.handled fiq.handled s inputs steps at why after
      pub line_is : IsLineNumberAt source at line
      pub text_is : text
          ≡ strayed_text (before + steps) at line
          (visit_why_text irq.handled.stated fiq.handled.stated at why)

    -- true exactly where some number of the inputs makes such a run
    abbrev pub IsVisitsText : Bool → List ℕ → Type 0
    IsVisitsText true text = IsKeptVisitsText text
    IsVisitsText false text = IsStrayedVisitsText text

-- ## From any state: the run is judged from where it first comes to the entry

module _ (irq fiq : BoundHandler) (profile : Profile) (s : State) (inputs : List Input)
    (source : File) where
  -- it comes there after so many steps
  pub record IsArrivedText (kept : Bool) (text : List ℕ) : Type 0 where
    pub before : ℕ
    pub now : State
    pub arrives : ArrivesAfter irq.handled.stated.entry s inputs before now
    pub is_text : IsVisitsText irq fiq profile now (drop before inputs) source before kept text

  -- it never does
  pub record IsNeverText (kept : Bool) (text : List ℕ) : Type 0 where
    pub never : NeverArrives irq.handled.stated.entry s inputs
    pub kept_is : kept ≡ false
    pub text_is : text ≡ never_text irq.handled.stated.entry

  abbrev pub IsArrivalText : Bool → List ℕ → Type 0
  IsArrivalText kept text = IsArrivedText kept text ⊎ IsNeverText kept text

-- ## The report

-- the answer on the run of a machine through an accepted handler that FIQ's, which is accepted too,
-- interrupts
pub record IsFollowVisitsReport (source : File) (statement fiq machine : List ℕ) (profile : Profile)
    (kept : Bool) (text : List ℕ) : Type 0 where
  pub bounded : IsBounded source statement profile
  pub fiq_bounded : IsBounded source fiq profile
  pub fiq_entry_is : fiq_bounded.accepted.stated.entry ≡ FIQ_VECTOR
  pub state : State
  pub inputs : List Input
  pub loaded : IsLoaded source machine profile state inputs
  pub is_text : IsArrivalText (bound_handler bounded) (bound_handler fiq_bounded) profile state inputs source
      kept text

-- ## Refusals

-- FIQ's handler is accepted, and begins at FIQ's vector
pub record IsFiqAccepted (source : File) (fiq : List ℕ) (profile : Profile) : Type 0 where
  pub accepted : IsAccepted source fiq profile
  pub entry_is : accepted.stated.entry ≡ FIQ_VECTOR

-- both handlers are accepted
pub record AreBothAccepted (source : File) (statement fiq : List ℕ) (profile : Profile) : Type 0 where
  pub handler : IsAccepted source statement profile
  pub fiq_handler : IsFiqAccepted source fiq profile

-- and the machine can be loaded
pub record AreFollowable (source : File) (statement fiq machine : List ℕ) (profile : Profile) : Type 0 where
  pub both : AreBothAccepted source statement fiq profile
  pub runnable : IsRunnable source machine profile

-- when each refusal is answered: those of the handler, then those of FIQ's, then those of the machine
abbrev pub AreNotFollowed : File → List ℕ → List ℕ → List ℕ → Profile → ReportFault → Type 0
AreNotFollowed source statement fiq machine profile fault =
    IsRefused source statement profile fault
    ⊎ ((IsAccepted source statement profile × IsFiqRefused source fiq profile fault)
    ⊎ (AreBothAccepted source statement fiq profile × IsRunRefused source machine profile fault))

-- ## The call

-- the answer to a source, two statements and a machine file
abbrev pub FollowsVisitedRun : {O : Type 0} → (O → Option (List ℕ)) → (O → ℕ) → File → List ℕ → List ℕ
    → List ℕ → Profile → O → O → Result Bool ReportFault → Type 0
FollowsVisitedRun taken failures source statement fiq machine profile old new result =
    Answers taken failures (IsFollowVisitsReport source statement fiq machine profile)
    (AreFollowable source statement fiq machine profile)
    (AreNotFollowed source statement fiq machine profile) old new result
