-- The inputs of a machine file's steps, by its events.
use Rattle.std.specs.Prelude.{◌≡◌, ◌<◌, ◌⊎◌, ◌+◌, ℕ, List, length, Option, Some, None, option_map, nat_eq}
use Rattle.std.specs.Prelude.{slice_index_or, unwrap_or}
use Rattle.std.specs.Map.{lookup}
use Rattle.std.specs.Option.{option_and_then}
use Rattle.arm2_exec.specs.declared.machine.Input.{Input}
use Rattle.ioc.specs.declared.lines.Lines.{Lines}
use Rattle.machine_file.specs.Stated.{Schedule}
use Rattle.machine_file.specs.declared.events.Event.{Event}

-- the event at a step
abbrev pub event_of_step : Schedule → ℕ → Option Event
event_of_step s k = lookup (nat_eq k) s.events

abbrev pub bursts_of_step : Schedule → ℕ → ℕ
bursts_of_step s k = unwrap_or (option_map (λ e. e.bursts) (event_of_step s k)) 0

abbrev pub lines_of_step : Schedule → ℕ → Option Lines
lines_of_step s k = option_and_then (λ e. e.lines) (event_of_step s k)

abbrev pub port_of_step : Schedule → ℕ → Option ℕ
port_of_step s k = option_and_then (λ e. e.port) (event_of_step s k)

-- what the last step before `end` that states something states, or else `start`
abbrev pub IsLast : {A : Type 0} → (ℕ → Option A) → A → ℕ → A → Type 0
IsLast given start end value =
    ((k : ℕ) × (k < end) × (given k ≡ Some value) × ((j : ℕ) → k < j → j < end → given j ≡ None))
    ⊎ (((j : ℕ) → j < end → given j ≡ None) × (value ≡ start))

-- the input of a step: the bursts of its event, and the lines and the port of the last event up to it that
-- has them
pub record IsInput (s : Schedule) (k : ℕ) (input : Input) : Type 0 where
  pub bursts : input.bursts ≡ bursts_of_step s k
  pub lines : IsLast (lines_of_step s) (record { 0 = 0 }) (k + 1) input.lines
  pub port : IsLast (port_of_step s) s.port (k + 1) input.port

-- one input for each step
pub record AreInputs (s : Schedule) (inputs : List Input) : Type 0 where
  pub count : length inputs ≡ s.steps
  pub each : (k : ℕ) (input : Input) → k < length inputs → input ≡ slice_index_or inputs k input
      → IsInput s k input
