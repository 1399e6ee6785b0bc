-- What the times of an explanation say of machine runs: when words begin, and when runs end where DMA bursts
-- come in the midst.
use Rattle.std.specs.Prelude.{◌≡◌, ℕ, ◌+◌, ◌<◌, ◌≤◌, true, false, List, [], ◌∷◌, length, take, All, Option}
use Rattle.std.specs.Prelude.{Some, IsSomeAnd}
use Rattle.bus_ticks.specs.declared.profile.Profile.{Profile}
use Rattle.image.specs.Image.{Words}
use Rattle.statement.specs.Stated.{Stated}
use Rattle.arm2_exec.specs.Run.{Runs}
use Rattle.arm2_exec.specs.State.{State}
use Rattle.arm2_exec.specs.declared.machine.Input.{Input}
use Rattle.arm2_exec.specs.declared.machine.Ran.{Ran}
use Rattle.control_flow.specs.Flow.{Flow}
use Rattle.flow_graph.specs.StepLaw.{bursts_of}
use Rattle.control_flow.specs.declared.places.Place.{Place}
use Rattle.loop_bounds.specs.Tree.{Tree}
use Rattle.kept_runs.specs.Keeping.{RunsTo}
use Rattle.text_explained.specs.Bursts.{AreFewest, with_bursts}
use Rattle.text_explained.specs.Taken.{is_at}
use Rattle.handlers.specs.Keeping.{KeepsStatement, TakesAtMost}

-- ## When a word begins

-- Each run that so far keeps the statement, whether or not it ever ends, and is at the address with its next
-- step has taken at most so many ticks, and with those of DMA bursts at most their price more. Where it is
-- None, no such run comes there.
abbrev pub BeginsWithin : Words → Stated → Flow → Tree → ℕ → Option ℕ → Type 0
BeginsWithin words stated flow tree a latest =
    (s : State) (inputs : List Input) (steps : ℕ) (place : Place) (now : State)
    → (run : RunsTo words stated flow tree s inputs steps place now) → is_at a place ≡ true
    → IsSomeAnd latest (λ ticks. TakesAtMost flow.profile ticks (take steps inputs) run.ran)

-- The same of runs that come to the address with their next step for the first time.
abbrev pub FirstBeginsWithin : Words → Stated → Flow → Tree → ℕ → Option ℕ → Type 0
FirstBeginsWithin words stated flow tree a first =
    (s : State) (inputs : List Input) (steps : ℕ) (place : Place) (now : State)
    → (run : RunsTo words stated flow tree s inputs steps place now) → is_at a place ≡ true
    → All (λ e. is_at a e.from ≡ false) run.walk
    → IsSomeAnd first (λ ticks. TakesAtMost flow.profile ticks (take steps inputs) run.ran)

-- ## When a run ends

-- each time is at least so many ticks after the one before it, and the first that many after this one
abbrev pub AreApartAfter : (every before : ℕ) → List ℕ → Type 0
AreApartAfter every before [] = Unit {0}
AreApartAfter every before (t ∷ times) = (before + every ≤ t) × AreApartAfter every t times

abbrev pub AreApart : (every : ℕ) → List ℕ → Type 0
AreApart every [] = Unit {0}
AreApart every (t ∷ times) = AreApartAfter every t times

-- Bursts come at most once in so many ticks: those of the run begin at these times, in ticks that passed
-- since it began. Each holds up a step, so the run goes on after it.
pub record ComeEvery (price every : ℕ) (inputs : List Input) (ran : Ran) : Type 0 where
  pub times : List ℕ
  pub each : length times ≡ bursts_of inputs
  pub apart : AreApart every times
  pub inside : All (λ t. t + price < ran.elapsed) times

-- a run that keeps the statement, and in which bursts come so, ends within the bound and the fewest bursts
-- that are enough
abbrev pub EndsWithin : Words → Stated → Profile → Flow → (bound : ℕ) → Type 0
EndsWithin words stated profile flow bound =
    (every fewest : ℕ) (s : State) (inputs : List Input) (ran : Ran) (after : State)
    → AreFewest profile.burst bound every (Some fewest)
    → KeepsStatement words stated profile flow s inputs → Runs s inputs ran after
    → ComeEvery profile.burst every inputs ran
    → ran.elapsed ≤ with_bursts profile.burst bound fewest
