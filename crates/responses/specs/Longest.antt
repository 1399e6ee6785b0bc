-- The longest step of any program, in ticks.
use Rattle.std.specs.Prelude.{◌≡◌, ℕ, ◌+◌, ◌*◌, ◌≤◌, length, max, None}
use Rattle.bus_ticks.specs.declared.profile.Class.TheVariants.{Any}
use Rattle.bus_ticks.specs.declared.profile.Profile.{Profile}
use Rattle.bus_ticks.specs.Worst.{worst_io, worst_leave, worst_rom}
use Rattle.memc.specs.Paged.{IsShift}
use Rattle.arm2_exec.specs.Run.{why_stopped}
use Rattle.arm2_exec.specs.State.{State}
use Rattle.arm2_exec.specs.Step.{Step}
use Rattle.arm2_exec.specs.declared.machine.Input.{Input}
use Rattle.arm2_exec.specs.declared.machine.Stepped.{Stepped}

-- a step of a machine with its 27 registers, pages of one of MEMC's four sizes, and these prices, that does
-- not stop it
pub record IsStepAt (profile : Profile) (s : State) (i : Input) (stepped : Stepped)
    (after : State) : Type 0 where
  pub registers : length s.regs ≡ 27
  pub pages : IsShift s.bus.memc.shift
  pub prices : s.profile ≡ profile
  pub step : Step s i stepped after
  pub goes_on : why_stopped stepped.kind ≡ None

-- such a step of so many ticks
pub record HasStepOf (profile : Profile) (ticks : ℕ) : Type 0 where
  pub s : State
  pub i : Input
  pub stepped : Stepped
  pub after : State
  pub is : IsStepAt profile s i stepped after
  pub ticks_are : stepped.ticks ≡ ticks

-- whatever the program, no step takes more ticks, and one takes as many
pub record IsLongestStep (profile : Profile) (ticks : ℕ) : Type 0 where
  pub none_above : (s : State) (i : Input) (stepped : Stepped) (after : State)
      → IsStepAt profile s i stepped after → stepped.ticks ≤ ticks
  pub reached : HasStepOf profile ticks

-- Its fetch is the dearest that an instruction can have, in RAM or in ROM. It loads 16 words from the dearest
-- devices, the last into R15, and so jumps to where that is the dearest; or it is a multiply of 16 cycles,
-- where internal cycles are dear enough.
abbrev pub longest_step : Profile → ℕ
longest_step p =
    max p.quad (worst_rom p) + max (16 * worst_io p + p.internal + worst_leave p Any) (16 * p.internal)
