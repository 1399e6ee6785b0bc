-- The modes, and the 27 registers in their banks (VL86C010 data sheet, processor modes and registers).
use Rattle.std.specs.Prelude.{ℕ, ◌+◌, ◌==◌, nat_le, Bool, true, false, if◌then◌else◌, List, slice_index}
use Rattle.std.specs.Prelude.{slice_set}
use Rattle.arm2_effect.specs.declared.modes.Mode.{Mode}
use Rattle.arm2_effect.specs.declared.modes.Mode.TheVariants.{User, Fiq, Irq, Svc}
use Rattle.arm2_effect.specs.declared.modes.Reg.{Reg}
use Rattle.arm2_effect.specs.declared.modes.Reg.TheVariants.{R0, R1, R2, R3, R4, R5, R6, R7, R8, R9, R10, R11}
use Rattle.arm2_effect.specs.declared.modes.Reg.TheVariants.{R12, R13, R14, R8Fiq, R9Fiq, R10Fiq, R11Fiq}
use Rattle.arm2_effect.specs.declared.modes.Reg.TheVariants.{R12Fiq, R13Fiq, R14Fiq, R13Irq, R14Irq, R13Svc}
use Rattle.arm2_effect.specs.declared.modes.Reg.TheVariants.{R14Svc, R15}

-- the number of a mode in R15
abbrev pub mode_number : Mode → ℕ
mode_number User = 0
mode_number Fiq = 1
mode_number Irq = 2
mode_number Svc = 3

-- the mode of a number; every number from 3 on names Svc
abbrev pub mode_named : ℕ → Mode
mode_named n = if n == 0 then User else (if n == 1 then Fiq else (if n == 2 then Irq else Svc))

abbrev pub is_user : Mode → Bool
is_user User = true
is_user Fiq = false
is_user Irq = false
is_user Svc = false

-- the place of each register in the list of all: those of User, then the banks of FIQ, IRQ and SVC, and R15
-- last
abbrev pub reg_number : Reg → ℕ
reg_number R0 = 0
reg_number R1 = 1
reg_number R2 = 2
reg_number R3 = 3
reg_number R4 = 4
reg_number R5 = 5
reg_number R6 = 6
reg_number R7 = 7
reg_number R8 = 8
reg_number R9 = 9
reg_number R10 = 10
reg_number R11 = 11
reg_number R12 = 12
reg_number R13 = 13
reg_number R14 = 14
reg_number R8Fiq = 15
reg_number R9Fiq = 16
reg_number R10Fiq = 17
reg_number R11Fiq = 18
reg_number R12Fiq = 19
reg_number R13Fiq = 20
reg_number R14Fiq = 21
reg_number R13Irq = 22
reg_number R14Irq = 23
reg_number R13Svc = 24
reg_number R14Svc = 25
reg_number R15 = 26

-- the place of register n of a mode: FIQ has its own from R8 on, IRQ and SVC from R13 on, and all modes share
-- R15
abbrev pub slot_of : Mode → ℕ → ℕ
slot_of User n = if n == 15 then 26 else n
slot_of Fiq n = if n == 15 then 26 else (if nat_le 8 n then n + 7 else n)
slot_of Irq n = if n == 15 then 26 else (if nat_le 13 n then n + 9 else n)
slot_of Svc n = if n == 15 then 26 else (if nat_le 13 n then n + 11 else n)

-- register n of a mode
abbrev pub register_in : Mode → ℕ → List ℕ → ℕ
register_in mode n regs = slice_index regs (slot_of mode n)

-- the registers with a value in register n of a mode
abbrev pub with_register : Mode → ℕ → ℕ → List ℕ → List ℕ
with_register mode n value regs = slice_set regs (slot_of mode n) value

-- R15 and the registers with a value in it
abbrev pub r15_in : List ℕ → ℕ
r15_in regs = slice_index regs 26

abbrev pub with_r15 : ℕ → List ℕ → List ℕ
with_r15 value regs = slice_set regs 26 value
