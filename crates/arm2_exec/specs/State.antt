-- The machine's state (the registers by the VL86C010 data sheet, but for what a reset leaves as it was).
use Rattle.std.specs.Prelude.{◌≡◌, ◌++◌, ◌∷◌, [], ℕ, List, slice_index, slice_set, replicate}
use Rattle.bus_ticks.specs.declared.profile.Profile.{Profile}
use Rattle.arm2_effect.specs.declared.modes.Reg.{Reg}
use Rattle.arm2_effect.specs.Modes.{reg_number}
use Rattle.arm2_transfer.specs.declared.bus.Bus.{Bus}
use Rattle.memc.specs.Memory.{IsStart}
use Rattle.ioc.specs.Interrupts as ioc
use Rattle.vidc.specs.Video as vidc

-- the 27 registers by their numbers, memory with its controller, IOC and VIDC, and the prices of accesses
pub record State : Type 0 where
  pub regs : List ℕ
  pub bus : Bus
  pub profile : Profile

-- the word in a register, and the state with another one in it
abbrev pub register_of : Reg → State → ℕ
register_of register s = slice_index s.regs (reg_number register)

abbrev pub with_register_of : Reg → ℕ → State → State
with_register_of register word s = record s { regs = slice_set s.regs (reg_number register) word }

-- R15 after a reset: the address 0, SVC mode, I and F set
abbrev pub reset_r15 : ℕ
reset_r15 = 0x0C000003

-- a machine as it is made: all registers but R15 are 0, memory is at its start, and so are the devices
pub record IsReset (shift : ℕ) (profile : Profile) (s : State) : Type 0 where
  pub regs : s.regs ≡ replicate 26 0 ++ reset_r15 ∷ []
  pub memory : IsStart shift s.bus.memc
  pub ioc : s.bus.ioc ≡ ioc.fresh
  pub vidc : s.bus.vidc ≡ vidc.fresh
  pub prices : s.profile ≡ profile
