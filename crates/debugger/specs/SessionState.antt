-- What a session holds.
use Rattle.std.specs.Prelude.{◌==◌, ◌+◌, ◌-◌, ◌^◌, ◌<◌, min, nat_lt, ℕ, List, [], ◌∷◌, if◌then◌else◌}
use Rattle.arm2_exec.specs.declared.machine.Input.{Input}
use Rattle.arm2_exec.specs.declared.machine.Ran.{Ran}
use Rattle.arm2_exec.specs.State.{State}

-- a machine, its breakpoints ascending, what comes from outside in the next step, and the sums of the ticks
-- of all runs, without those of bursts and with them
pub record SessionState : Type 0 where
  pub machine : State
  pub breaks : List ℕ
  pub next : Input
  pub ticks : ℕ
  pub elapsed : ℕ

-- as a session begins
abbrev pub begun : State → (port : ℕ) → SessionState
begun machine port = record {
  machine = machine;
  breaks = [];
  next = record { bursts = 0; lines = record { 0 = 0 }; port = port };
  ticks = 0;
  elapsed = 0;
}

-- the greatest sum is 2^128 - 1
abbrev pub capped_ticks : ℕ → ℕ → ℕ
capped_ticks a b = min (a + b) (2 ^ 128 - 1)

-- bursts stretch one step alone; lines and port stay
abbrev pub without_bursts : Input → Input
without_bursts i = record i { bursts = 0 }

-- after a run
abbrev pub moved_on : SessionState → Ran → State → SessionState
moved_on s ran machine = record {
  machine = machine;
  breaks = s.breaks;
  next = without_bursts s.next;
  ticks = capped_ticks s.ticks ran.ticks;
  elapsed = capped_ticks s.elapsed ran.elapsed;
}

-- a breakpoint that is set is removed, any other is added at its place
abbrev pub toggled : ℕ → List ℕ → List ℕ
toggled a [] = a ∷ []
toggled a (b ∷ rest) = if nat_lt b a then b ∷ toggled a rest else (if b == a then rest else a ∷ b ∷ rest)

-- below the first
abbrev pub IsBelow : ℕ → List ℕ → Type 0
IsBelow a [] = Unit {0}
IsBelow a (b ∷ rest) = a < b

abbrev pub Ascending : List ℕ → Type 0
Ascending [] = Unit {0}
Ascending (a ∷ rest) = IsBelow a rest × Ascending rest
