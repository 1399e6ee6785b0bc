-- What the parts of a report on a run with visits leave to each other.
use Rattle.std.specs.Prelude.{◌≡◌, ◌≢◌, ◌⊎◌, ℕ, ◌+◌, Bool, true, false, List, ◌++◌, Option, drop}
use Rattle.bus_ticks.specs.declared.profile.Profile.{Profile}
use Rattle.image.specs.Image.{Words}
use Rattle.arm2_exec.specs.State.{State}
use Rattle.arm2_exec.specs.Step.{address_in}
use Rattle.arm2_exec.specs.declared.machine.Input.{Input}
use Rattle.longest_walk.specs.Longest.{IsLongest, IsWalkFault}
use Rattle.longest_walk.specs.Visits.{visits_bound}
use Rattle.longest_walk.specs.declared.folded.Longest.{Longest}
use Rattle.numbered_walks.specs.declared.fault.WalkFault.{WalkFault}
use Rattle.numbered_walks.specs.declared.fault.WalkFault.TheVariants as walk_fault
use Rattle.machine_file.specs.Inputs.{AreInputs}
use Rattle.machine_file.specs.Stated as machine_file
use Rattle.kept_runs.specs.Arriving.{ArrivesAfter, NeverArrives}
use Rattle.kept_runs.specs.Visited.{IsVisitedRun, handled}
use Rattle.kept_runs.specs.declared.visited.VisitedRun.{VisitedRun}
use Rattle.kept_runs.specs.declared.visited.VisitedRun.TheVariants.{Kept, Strayed}
use Rattle.follow_reports.specs.FollowText.{IsLeftText, IsLineNumberAt, strayed_text}
use Rattle.follow_reports.specs.FollowVisits.{AreNotFollowed, IsFollowVisitsReport}
use Rattle.follow_reports.specs.VisitedText.{kept_visits_text, never_text, visit_why_text}
use Rattle.follow_reports.specs.declared.follow_visits.BoundedHandler.{BoundedHandler}
use Rattle.follow_reports.specs.declared.follow_visits.FollowedVisits.{FollowedVisits}
use Rattle.handlers.specs.Report.{HasLoops}
use Rattle.loop_bounds.specs.Handler.{HasItsTree}
use Rattle.handlers.specs.declared.fault.ReportFault.{ReportFault}
use Rattle.sources.specs.File.{File, file_of}

-- the handler of a source and a statement, and its bound
pub record IsBoundOf (source : File) (statement : List ℕ) (profile : Profile)
    (b : BoundedHandler) : Type 0 where
  pub loops : HasLoops source statement profile b.handler.statement b.handler.graph
  pub image : b.handler.image.now ≡ loops.graph.words
  pub tree : HasItsTree b.handler
  pub longest : Longest
  pub longest_is : IsLongest b.handler.graph b.handler.tree longest
  pub allowed : (fault : WalkFault) → fault ≢ walk_fault.Memory
      → IsWalkFault b.handler.graph b.handler.tree fault → ⊥
  pub bound_is : b.bound ≡ longest.bound

-- the answer on a judged run: so many steps come before the entry, and the machine is at the address after it
abbrev pub IsRunText : (source : File) → Words → Profile → (irq fiq : BoundedHandler) → (before after : ℕ)
    → VisitedRun → Bool → List ℕ → Type 0
IsRunText source words profile irq fiq before after (Kept steps ticks visits) kept text =
    (kept ≡ true)
    × ((left : List ℕ) × IsLeftText source words after left
    × (text ≡ kept_visits_text ticks visits (visits_bound profile irq.bound fiq.bound visits) ++ left))
IsRunText source words profile irq fiq before after (Strayed steps at why) kept text =
    (kept ≡ false)
    × ((line : Option ℕ) × IsLineNumberAt source at line
    × (text
    ≡ strayed_text (before + steps) at line
    (visit_why_text irq.handler.statement fiq.handler.statement at why)))

-- and what was judged
pub record IsArrivedRun (source : File) (words : Words) (profile : Profile) (irq fiq : BoundedHandler)
    (s : State) (inputs : List Input) (kept : Bool) (text : List ℕ) : Type 0 where
  pub before : ℕ
  pub now : State
  pub arrives : ArrivesAfter irq.handler.statement.entry s inputs before now
  pub after : State
  pub run : VisitedRun
  pub judged : IsVisitedRun (handled irq.handler) (handled fiq.handler) now (drop before inputs) after run
  pub is_text : IsRunText source words profile irq fiq before (address_in after.regs) run kept text

-- it never comes to the entry
pub record IsRunElsewhere (irq : BoundedHandler) (s : State) (inputs : List Input) (kept : Bool)
    (text : List ℕ) : Type 0 where
  pub never : NeverArrives irq.handler.statement.entry s inputs
  pub kept_is : kept ≡ false
  pub text_is : text ≡ never_text irq.handler.statement.entry

-- the answer on the run of a machine from a state, by the inputs that its file states
pub record IsVisitsJudged (source : File) (words : Words) (profile : Profile) (irq fiq : BoundedHandler)
    (file : machine_file.Stated) (s : State) (kept : Bool) (text : List ℕ) : Type 0 where
  pub inputs : List Input
  pub inputs_are : AreInputs file.schedule inputs
  pub is_text : IsArrivedRun source words profile irq fiq s inputs kept text
      ⊎ IsRunElsewhere irq s inputs kept text

-- whether a run keeps both statements by a profile, and the report that says so
abbrev pub IsVisitsReportOn : FollowedVisits → Profile → (kept : Bool) → (text : List ℕ) → Type 0
IsVisitsReportOn run profile kept text =
    IsFollowVisitsReport (file_of run.source) run.statement.now run.fiq_statement.now run.machine.now profile
    kept text

-- when each refusal of a run by a profile is answered
abbrev pub IsVisitsRefusalOf : FollowedVisits → Profile → ReportFault → Type 0
IsVisitsRefusalOf run profile fault =
    AreNotFollowed (file_of run.source) run.statement.now run.fiq_statement.now run.machine.now profile fault
