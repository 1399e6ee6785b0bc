-- A run of the machine that is watched: each step that it makes, and an end at a breakpoint.
use Rattle.std.specs.Prelude.{◌≡◌, ◌==◌, ℕ, zero, suc, Bool, true, false, List, [], ◌∷◌, ◌++◌}
use Rattle.std.specs.Prelude.{Option, Some, None}
use Rattle.std.specs.List.{list_any}
use Rattle.arm2_effect.specs.declared.step_end.Why.{Why}
use Rattle.arm2_exec.specs.declared.machine.Input.{Input}
use Rattle.arm2_exec.specs.declared.machine.Ran.{Ran}
use Rattle.arm2_exec.specs.State.{State}
use Rattle.arm2_exec.specs.Step.{address_in}
use Rattle.arm2_exec.specs.Run.{at_rest, counted, why_stopped}
use Rattle.arm2_exec.specs.declared.machine.Traced.{Traced}
use Rattle.debugger.specs.SessionState.{without_bursts}
use Rattle.debugger.specs.Stepping.{Makes}

-- the inputs of so many steps
abbrev pub inputs_of : Input → ℕ → List Input
inputs_of i zero = []
inputs_of i (suc n) = i ∷ inputs_of (without_bursts i) n

-- the address in R15 is a breakpoint
abbrev pub is_at_break : List ℕ → State → Bool
is_at_break breaks s = list_any (λ a. a == address_in s.regs) breaks

-- nothing more is run
abbrev pub Rests : State → Option Why → (made : List Traced) → Ran → State → Type 0
Rests s why made ran after = (made ≡ []) × (ran ≡ at_rest why) × (after ≡ s)

-- a step that is stopped ends the run and does not count
abbrev pub EndsAt : Option Why → State → (made : List Traced) → Ran → State → (goes_on : Type 0) → Type 0
EndsAt (Some why) s made ran after goes_on = Rests s (Some why) made ran after
EndsAt None s made ran after goes_on = goes_on

-- a breakpoint ends it after a step
abbrev pub UpTo : (at_break : Bool) → State → (made : List Traced) → Ran → State → (goes_on : Type 0) → Type 0
UpTo true s made ran after goes_on = Rests s None made ran after
UpTo false s made ran after goes_on = goes_on

-- The run from a state by some inputs: the steps that it makes, what it reports and where it ends. It ends
-- before a step that is stopped, and after any step also before the instruction at a breakpoint.
abbrev pub Watches : (breaks : List ℕ) → State → List Input → (made : List Traced) → Ran → State → Type 0
Watches breaks s [] made ran after = Rests s None made ran after
Watches breaks s (i ∷ rest) made ran after =
    (traced : Traced) × (next : State) × Makes s i traced next
    × EndsAt (why_stopped traced.stepped.kind) s made ran after (
    (later : List Traced) × (more : Ran)
    × (made ≡ traced ∷ later) × (ran ≡ counted s.profile.burst i traced.stepped more)
    × UpTo (is_at_break breaks next) next later more after (Watches breaks next rest later more after))

-- a step without the address of the next, which its line does not show
abbrev pub as_shown : Traced → Traced
as_shown t = record t { stepped = record t.stepped { to = 0 } }

-- the last of the steps, as its line shows it; none where none is made
abbrev pub IsLast : (made : List Traced) → Option Traced → Type 0
IsLast made None = made ≡ []
IsLast made (Some last) =
    (before : List Traced) × (step : Traced) × (made ≡ before ++ step ∷ []) × (last ≡ as_shown step)
