-- What a step keeps that takes an exception, and where it is taken (VL86C010 data sheet, exceptions, but for
-- an aborted transfer, which moves no word and writes back no base).
use Rattle.std.specs.Prelude.{◌≡◌, ◌≢◌, ◌+◌, ◌*◌}
use Rattle.bus_ticks.specs.Worst.{AtTimes}
use Rattle.arm2_effect.specs.declared.exceptions.Vector.{Vector}
use Rattle.arm2_effect.specs.declared.modes.Reg.{Reg}
use Rattle.arm2_effect.specs.Exceptions.{entry_at}
use Rattle.arm2_effect.specs.Modes.{reg_number, slot_of}
use Rattle.arm2_exec.specs.declared.machine.Input.{Input}
use Rattle.arm2_exec.specs.declared.machine.Stepped.{Stepped}
use Rattle.arm2_exec.specs.State.{State, register_of}
use Rattle.arm2_exec.specs.Step.{address_in, elapsed, with_lines}

-- memory and its controller, all registers but R14 and R15 of the exception's mode, and the prices; the
-- devices have the lines and the time alone
pub record KeepsTheRest (vector : Vector) (s : State) (i : Input) (stepped : Stepped)
    (after : State) : Type 0 where
  pub memory : after.bus.memc ≡ s.bus.memc
  pub registers : (r : Reg) → reg_number r ≢ slot_of (entry_at vector).mode 14
      → reg_number r ≢ slot_of (entry_at vector).mode 15 → register_of r after ≡ register_of r s
  pub prices : after.profile ≡ s.profile
  pub devices : after.bus ≡ elapsed (stepped.ticks + s.profile.burst * i.bursts) (with_lines i.lines.0 s.bus)

-- where a step interrupts the handler: at this address, by these time fields of ROM
abbrev pub interrupted_in : State → AtTimes
interrupted_in s = record { address = address_in s.regs; rom = s.bus.memc.control.rom_times }
