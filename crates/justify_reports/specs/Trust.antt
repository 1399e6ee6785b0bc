-- What of a statement is on trust, and what a bound says of runs that keep that.
use Rattle.std.specs.Prelude.{◌≡◌, ◌==◌, ℕ, Bool, true, false, List, Option, Some, None, IfSome}
use Rattle.std.specs.List.{list_any}
use Rattle.bus_ticks.specs.declared.profile.Profile.{Profile}
use Rattle.image.specs.Image.{Words}
use Rattle.statement.specs.Stated.{Stated}
use Rattle.arm2_exec.specs.Run.{Runs}
use Rattle.arm2_exec.specs.State.{State}
use Rattle.arm2_exec.specs.declared.machine.Input.{Input}
use Rattle.arm2_exec.specs.declared.machine.Ran.{Ran}
use Rattle.control_flow.specs.Flow.{Flow}
use Rattle.control_flow.specs.declared.edges.Edge.{Edge}
use Rattle.loop_bounds.specs.Bounds.{IsCompleteWalk}
use Rattle.known_words.specs.Given.{AreGiven}
use Rattle.known_words.specs.Knowledge.{AreWords}
use Rattle.known_words.specs.declared.given.Given.{Given}
use Rattle.known_places.specs.OnTrust.{GoesOnTrust, Justifies, KeepsTheBoundsAt, OnTrust}
use Rattle.handlers.specs.Keeping.{BoundsRuns, TakesAtMost}

-- ## What is on trust

-- the address is among those of the words whose class is on trust
abbrev pub lists_class : Option OnTrust → ℕ → Bool
lists_class None address = false
lists_class (Some trusted) address = list_any (λ a. a == address) trusted.classes

-- the stated class of what the word at the address transfers is on trust; all is, where nothing is seen
abbrev pub trusts_class : Option OnTrust → ℕ → Bool
trusts_class None address = true
trusts_class (Some trusted) address = list_any (λ a. a == address) trusted.classes

-- the stated bound of the loop whose header is at the address is on trust; all is, where nothing is seen
abbrev pub trusts_loop : Option OnTrust → ℕ → Bool
trusts_loop None address = true
trusts_loop (Some trusted) address = list_any (λ a. a == address) trusted.loops

-- ## Runs

-- A run that begins with words of 32 bits in the registers of the entry's mode but R15, as given, goes from
-- the entry to Exit and keeps the statement step by step but for its classes and its loops' bounds, and keeps
-- those that are left on trust.
pub record KeepsOnTrust (words : Words) (st : Stated) (flow : Flow) (given : List Given) (trusted : OnTrust)
    (s : State) (inputs : List Input) : Type 0 where
  pub are_words : AreWords s.regs
  pub are_given : AreGiven given s.regs
  pub walk : List Edge
  pub complete : IsCompleteWalk flow walk
  pub bounds : KeepsTheBoundsAt flow st.loops trusted.loops walk
  pub goes : GoesOnTrust words st flow.profile trusted.classes s inputs walk

-- every such run takes at most the bound; where all is on trust, every run that keeps the statement
abbrev pub BoundsOnTrust : Words → Stated → Profile → Flow → List Given → Option OnTrust → ℕ → Type 0
BoundsOnTrust words st profile flow given None bound = BoundsRuns words st profile flow bound
BoundsOnTrust words st profile flow given (Some trusted) bound =
    (s : State) (inputs : List Input) (ran : Ran) (after : State)
    → KeepsOnTrust words st flow given trusted s inputs → Runs s inputs ran after
    → TakesAtMost profile bound inputs ran

-- what is not on trust follows, and the bound holds of the runs that keep what is
pub record IsJustified (words : Words) (st : Stated) (profile : Profile) (flow : Flow) (given : List Given)
    (left : Option OnTrust) (bound : ℕ) : Type 0 where
  pub follows : IfSome left (Justifies words st flow given)
  pub bounds : BoundsOnTrust words st profile flow given left bound
