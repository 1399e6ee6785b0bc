-- How far a run of two handlers has been followed, and one main step or one visit of it.
use Rattle.std.specs.Prelude.{◌≡◌, ◌≢◌, ◌⊎◌, ℕ, ◌+◌, ◌*◌, ◌<◌, ◌≤◌, ◌^◌, List, length}
use Rattle.arm2_effect.specs.declared.exceptions.Vector.TheVariants.{Fiq}
use Rattle.arm2_effect.specs.declared.step_end.Kind.TheVariants.{Taken}
use Rattle.arm2_exec.specs.State.{State}
use Rattle.arm2_exec.specs.Step.{Step, address_in}
use Rattle.arm2_exec.specs.declared.machine.Input.{Input}
use Rattle.arm2_exec.specs.declared.machine.Stepped.{Stepped}
use Rattle.control_flow.specs.Flow.{IsWellFormed}
use Rattle.kept_runs.specs.declared.following.Follower.{Follower}
use Rattle.kept_runs.specs.declared.following.Unkept.{Unkept}
use Rattle.kept_runs.specs.declared.visited.Both.{Both}
use Rattle.kept_runs.specs.declared.visited.Followers.{Followers}
use Rattle.kept_runs.specs.declared.visited.VisitStraying.{VisitStraying}
use Rattle.kept_runs.specs.declared.visited.VisitUnkept.{VisitUnkept}
use Rattle.kept_runs.specs.declared.visited.VisitUnkept.TheVariants.{InMain, InVisit, NotBack}
use Rattle.kept_runs.specs.Following.{AreHeadersOf, CanGo, Goes, Halts, IsFresh}
use Rattle.kept_runs.specs.Keeping.{IsHandler, IsStrayedRun}
use Rattle.kept_runs.specs.Whole.{Leaves}

-- ## Before a step

-- both handlers are as they should be, over the same prices
pub record AreReady (b : Both) : Type 0 where
  pub irq : IsHandler b.irq.now.image.now b.irq.now.statement b.irq.now.graph b.irq.now.tree
  pub irq_well : IsWellFormed b.irq.now.graph
  pub fiq : IsHandler b.fiq.now.image.now b.fiq.now.statement b.fiq.now.graph b.fiq.now.tree
  pub irq_headers : AreHeadersOf b.irq.now.graph b.irq.now.tree b.irq_headers.now
  pub fiq_headers : AreHeadersOf b.fiq.now.graph b.fiq.now.tree b.fiq_headers.now
  pub prices : b.fiq.now.graph.profile ≡ b.irq.now.graph.profile

-- what is followed of a run has as many places as the graph
pub record HasRoom (exit : ℕ) (x : Follower) : Type 0 where
  pub turns : length x.turns.items ≡ exit + 1
  pub places : length x.by_place.items ≡ exit

-- a step may be made
pub record CanAdvance (b : Both) (x : Followers) (s : State) : Type 0 where
  pub can : CanGo b.irq.now.graph b.irq.now.tree x.main s
  pub room : HasRoom (length b.fiq.now.graph.places) x.visit

-- no more has been counted than by so many inputs
pub record IsCounted (n : ℕ) (x : Followers) : Type 0 where
  pub steps : x.main.steps ≤ n
  pub main_ticks : x.main.ticks ≤ n * 65536
  pub visits : x.visits ≤ n
  pub ticks : x.ticks ≤ n * 65536

-- nothing is followed yet
pub record IsBegun (b : Both) (x : Followers) : Type 0 where
  pub main : IsFresh (length b.irq.now.graph.places) x.main
  pub visits : x.visits ≡ 0
  pub ticks : x.ticks ≡ 0

-- ## One

-- the step takes FIQ
pub record TakesFiq (s : State) (i : Input) (entered : State) : Type 0 where
  pub stepped : Stepped
  pub step : Step s i stepped entered
  pub takes_fiq : stepped.kind ≡ Taken Fiq
  pub small : stepped.ticks < 2 ^ 16

module _ (b : Both) (old : Followers) (s : State) (i : Input) (rest : List Input) (after : State) where
  -- a step of the interrupted handler
  pub record MakesMainStep (new : Followers) : Type 0 where
    pub goes : Goes b.irq.now.image.now b.irq.now.statement b.irq.now.graph b.irq.now.tree old.main new.main s
        i after
    pub visit_is : new.visit ≡ old.visit
    pub visits_are : new.visits ≡ old.visits
    pub ticks_are : new.ticks ≡ old.ticks

  -- a visit
  pub record MakesVisit (new : Followers) : Type 0 where
    pub entered : State
    pub takes : TakesFiq s i entered
    pub leaves : Leaves b.fiq.now.image.now b.fiq.now.statement b.fiq.now.graph b.fiq.now.tree entered rest
        after new.visit
    pub back : address_in after.regs ≡ address_in s.regs
    pub main_is : new.main ≡ old.main
    pub visits_are : new.visits ≡ old.visits + 1
    pub ticks_are : new.ticks ≡ old.ticks + (takes.stepped.ticks + new.visit.ticks)

  -- one of both, by so many inputs
  abbrev pub Advances : Followers → ℕ → Type 0
  Advances new inputs =
      ((inputs ≡ 1) × MakesMainStep new) ⊎ ((inputs ≡ 1 + new.visit.steps) × MakesVisit new)

  -- ## Neither

  -- the step takes no FIQ, and is none of the interrupted handler
  pub record HaltsInMain (at : ℕ) (why : Unkept) : Type 0 where
    pub stepped : Stepped
    pub step : Step s i stepped after
    pub no_fiq : stepped.kind ≢ Taken Fiq
    pub judged : State
    pub halts : Halts b.irq.now.image.now b.irq.now.statement b.irq.now.graph b.irq.now.tree old.main s i
        judged why
    pub at_is : at ≡ address_in s.regs

  -- the step takes FIQ, and FIQ's handler does not keep its statement
  pub record HaltsInVisit (handling at : ℕ) (why : Unkept) : Type 0 where
    pub entered : State
    pub takes : TakesFiq s i entered
    pub strays : IsStrayedRun b.fiq.now.image.now b.fiq.now.statement b.fiq.now.graph b.fiq.now.tree entered
        rest handling at why after

  -- the step takes FIQ, and FIQ's handler leaves to another address
  pub record HaltsElsewhere (handling at address : ℕ) : Type 0 where
    pub entered : State
    pub takes : TakesFiq s i entered
    pub visit : Follower
    pub leaves : Leaves b.fiq.now.image.now b.fiq.now.statement b.fiq.now.graph b.fiq.now.tree entered rest
        after visit
    pub handling_is : handling ≡ visit.steps
    pub at_is : at ≡ address_in after.regs
    pub interrupted : address ≡ address_in s.regs
    pub elsewhere : at ≢ address

  abbrev pub IsHalt : (steps at : ℕ) → VisitUnkept → Type 0
  IsHalt steps at (InMain why) = (steps ≡ 0) × HaltsInMain at why
  IsHalt steps at (InVisit why) = (handling : ℕ) × (steps ≡ 1 + handling) × HaltsInVisit handling at why
  IsHalt steps at (NotBack address) =
      (handling : ℕ) × (steps ≡ 1 + handling) × HaltsElsewhere handling at address

  abbrev pub HaltsAfter : VisitStraying → Type 0
  HaltsAfter x = IsHalt x.steps x.at x.why
