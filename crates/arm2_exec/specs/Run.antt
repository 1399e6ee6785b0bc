-- A run: steps, one input each, up to the first that is stopped.
use Rattle.std.specs.Prelude.{◌≡◌, ℕ, ◌+◌, ◌*◌, ◌^◌, ◌≤◌, List, [], ◌∷◌, Option, Some, None}
use Rattle.arm2_effect.specs.declared.step_end.Kind.{Kind}
use Rattle.arm2_effect.specs.declared.step_end.Kind.TheVariants.{Plain, Taken, Stopped}
use Rattle.arm2_effect.specs.declared.step_end.Why.{Why}
use Rattle.arm2_exec.specs.declared.machine.Input.{Input}
use Rattle.arm2_exec.specs.declared.machine.Ran.{Ran}
use Rattle.arm2_exec.specs.declared.machine.Stepped.{Stepped}
use Rattle.arm2_exec.specs.State.{State}
use Rattle.arm2_exec.specs.Step.{Step}

-- why a step stopped, if it did
abbrev pub why_stopped : Kind → Option Why
why_stopped Plain = None
why_stopped (Taken vector) = None
why_stopped (Stopped why) = Some why

-- no steps
abbrev pub at_rest : Option Why → Ran
at_rest why = record { steps = 0; ticks = 0; elapsed = 0; stopped = why }

-- one step before others: its ticks, and those that pass with its bursts
abbrev pub counted : (burst : ℕ) → Input → Stepped → Ran → Ran
counted burst i stepped rest =
    record {
      steps = 1 + rest.steps;
      ticks = stepped.ticks + rest.ticks;
      elapsed = stepped.ticks + burst * i.bursts + rest.elapsed;
      stopped = rest.stopped;
    }

-- one step after others: its ticks, and those that pass with its bursts
abbrev pub with_one_step : (burst : ℕ) → Input → Stepped → Ran → Ran
with_one_step burst i stepped ran =
    record {
      steps = ran.steps + 1;
      ticks = ran.ticks + stepped.ticks;
      elapsed = ran.elapsed + (stepped.ticks + burst * i.bursts);
      stopped = ran.stopped;
    }

-- what so many steps can report at most
abbrev pub IsWithin : (steps : ℕ) → Ran → Type 0
IsWithin steps ran =
    (ran.steps ≤ steps) × (ran.ticks ≤ steps * 2 ^ 16) × (ran.elapsed ≤ steps * 2 ^ 33)

-- a stopped step ends the run and does not count; after any other the run goes on
abbrev pub Ends : Option Why → State → Ran → State → (goes_on : Type 0) → Type 0
Ends (Some why) s ran after goes_on = (ran ≡ at_rest (Some why)) × (after ≡ s)
Ends None s ran after goes_on = goes_on

-- the run from a state by some inputs, what it reports and where it ends
abbrev pub Runs : State → List Input → Ran → State → Type 0
Runs s [] ran after = (ran ≡ at_rest None) × (after ≡ s)
Runs s (i ∷ rest) ran after =
    (stepped : Stepped) × (next : State) × Step s i stepped next
    × Ends (why_stopped stepped.kind) s ran after
    ((more : Ran) × Runs next rest more after × (ran ≡ counted s.profile.burst i stepped more))
