-- What a load or a store does to the registers (VL86C010 data sheet, data transfer, where it speaks).
use Rattle.std.specs.Prelude.{ℕ, ◌+◌, ◌-◌, ◌%◌, ◌^◌, Bool, if◌then◌else◌, List}
use Rattle.arm2_decode.specs.declared.names.Register.{Register}
use Rattle.arm2_decode.specs.Names.{is_pc, register_number}
use Rattle.arm2_effect.specs.declared.modes.Mode.{Mode}
use Rattle.arm2_effect.specs.Modes.{r15_in, with_r15, register_in, with_register}
use Rattle.arm2_effect.specs.ProgramCounter.{address_of, r15_ahead, r15_jumped, r15_restored}

-- a base and an offset, on 32 bits
abbrev pub moved_by : (up : Bool) → (base offset : ℕ) → ℕ
moved_by up base offset = if up then (base + offset) % 2 ^ 32 else (base + (2 ^ 32 - offset)) % 2 ^ 32

-- the address of a single transfer, of 32 bits: the base, moved before the access where P is set
abbrev pub address_by : (before up : Bool) → (base offset : ℕ) → ℕ
address_by before up base offset = if before then moved_by up base offset else base

-- what a store takes from a register of a mode: R15 is three words on, with its PSR and mode
abbrev pub given : Mode → Register → List ℕ → ℕ
given mode register regs =
    if is_pc register then r15_ahead (r15_in regs) 12 else register_in mode (register_number register) regs

-- a loaded word in R15, of which r was the value before the instruction: the PSR comes along where it is
-- asked for
abbrev pub loaded_r15 : (psr : Bool) → (r word : ℕ) → ℕ
loaded_r15 psr r word = if psr then r15_restored r word (address_of word) else r15_jumped r word

-- a loaded word in a register of a mode
abbrev pub with_loaded : (psr : Bool) → Mode → (r : ℕ) → Register → (word : ℕ) → List ℕ → List ℕ
with_loaded psr mode r register word regs =
    if is_pc register then with_r15 (loaded_r15 psr r word) regs
    else with_register mode (register_number register) word regs

-- a new base in a register of the current mode, where it is written back
abbrev pub with_base : (write_back : Bool) → Mode → Register → (base : ℕ) → List ℕ → List ℕ
with_base write_back mode rn base regs =
    if write_back then with_register mode (register_number rn) base regs else regs

-- R15 one instruction on
abbrev pub passed : List ℕ → List ℕ
passed regs = with_r15 (r15_ahead (r15_in regs) 4) regs
