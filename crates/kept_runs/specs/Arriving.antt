-- When a run first comes to an address.
use Rattle.std.specs.Prelude.{◌≡◌, ◌≢◌, ℕ, ◌<◌, ◌≤◌, List, length, take}
use Rattle.arm2_exec.specs.Run.{Runs}
use Rattle.arm2_exec.specs.State.{State}
use Rattle.arm2_exec.specs.Step.{address_in}
use Rattle.arm2_exec.specs.declared.machine.Input.{Input}
use Rattle.arm2_exec.specs.declared.machine.Ran.{Ran}

module _ (address : ℕ) (s : State) (inputs : List Input) where
  -- after so many of the inputs the machine is elsewhere
  abbrev pub IsElsewhereAfter : ℕ → Type 0
  IsElsewhereAfter n = (ran : Ran) (now : State) → Runs s (take n inputs) ran now → address_in now.regs ≢ address

  -- after so many steps the machine is at the address, and it was not before
  pub record ArrivesAfter (steps : ℕ) (after : State) : Type 0 where
    pub few : steps ≤ length inputs
    pub ran : Ran
    pub runs : Runs s (take steps inputs) ran after
    pub steps_are : ran.steps ≡ steps
    pub there : address_in after.regs ≡ address
    pub first : (n : ℕ) → n < steps → IsElsewhereAfter n

  -- it never is
  abbrev pub NeverArrives : Type 0
  NeverArrives = (n : ℕ) → IsElsewhereAfter n
