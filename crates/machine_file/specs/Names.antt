-- The names in machine files, and the keys of their tables.
use Rattle.std.specs.Prelude.{ℕ, List, [], ◌∷◌, map, codes, Option, Some, None, if◌then◌else◌}
use Rattle.std.specs.Str.{bytes_eq}
use Rattle.arm2_effect.specs.declared.modes.Mode.{Mode}
use Rattle.arm2_effect.specs.declared.modes.Mode.TheVariants.{User, Fiq, Irq, Svc}
use Rattle.arm2_effect.specs.declared.modes.Reg.{Reg}
use Rattle.arm2_effect.specs.declared.modes.Reg.TheVariants.{R0, R1, R2, R3, R4, R5, R6, R7, R8, R9, R10, R11}
use Rattle.arm2_effect.specs.declared.modes.Reg.TheVariants.{R12, R13, R14, R8Fiq, R9Fiq, R10Fiq, R11Fiq}
use Rattle.arm2_effect.specs.declared.modes.Reg.TheVariants.{R12Fiq, R13Fiq, R14Fiq, R13Irq, R14Irq, R13Svc}
use Rattle.arm2_effect.specs.declared.modes.Reg.TheVariants.{R14Svc, R15}

-- the registers that a file may name, in their order
abbrev pub named_registers : List Reg
named_registers =
    R0 ∷ R1 ∷ R2 ∷ R3 ∷ R4 ∷ R5 ∷ R6 ∷ R7 ∷ R8 ∷ R9 ∷ R10 ∷ R11 ∷ R12 ∷ R13 ∷ R14 ∷ R8Fiq ∷ R9Fiq ∷ R10Fiq
    ∷ R11Fiq ∷ R12Fiq ∷ R13Fiq ∷ R14Fiq ∷ R13Irq ∷ R14Irq ∷ R13Svc ∷ R14Svc ∷ []

abbrev pub name_of : Reg → List ℕ
name_of R0 = codes "r0"
name_of R1 = codes "r1"
name_of R2 = codes "r2"
name_of R3 = codes "r3"
name_of R4 = codes "r4"
name_of R5 = codes "r5"
name_of R6 = codes "r6"
name_of R7 = codes "r7"
name_of R8 = codes "r8"
name_of R9 = codes "r9"
name_of R10 = codes "r10"
name_of R11 = codes "r11"
name_of R12 = codes "r12"
name_of R13 = codes "r13"
name_of R14 = codes "r14"
name_of R8Fiq = codes "r8_fiq"
name_of R9Fiq = codes "r9_fiq"
name_of R10Fiq = codes "r10_fiq"
name_of R11Fiq = codes "r11_fiq"
name_of R12Fiq = codes "r12_fiq"
name_of R13Fiq = codes "r13_fiq"
name_of R14Fiq = codes "r14_fiq"
name_of R13Irq = codes "r13_irq"
name_of R14Irq = codes "r14_irq"
name_of R13Svc = codes "r13_svc"
name_of R14Svc = codes "r14_svc"
name_of R15 = codes "r15"

-- ## The keys of the file and of the tables in it

abbrev pub file_keys : List (List ℕ)
file_keys =
    codes "pc" ∷ codes "pages" ∷ codes "mode" ∷ codes "flags" ∷ codes "low_rom" ∷ codes "high_rom"
    ∷ codes "steps" ∷ codes "port" ∷ codes "registers"
    ∷ codes "map" ∷ codes "event" ∷ codes "word" ∷ codes "ioc" ∷ codes "vidc" ∷ []

abbrev pub register_keys : List (List ℕ)
register_keys = map name_of named_registers

abbrev pub map_keys : List (List ℕ)
map_keys = codes "logical" ∷ codes "physical" ∷ codes "level" ∷ []

abbrev pub event_keys : List (List ℕ)
event_keys = codes "step" ∷ codes "bursts" ∷ codes "lines" ∷ codes "port" ∷ []

abbrev pub word_keys : List (List ℕ)
word_keys = codes "at" ∷ codes "value" ∷ []

abbrev pub ioc_keys : List (List ℕ)
ioc_keys =
    codes "mask_a" ∷ codes "mask_b" ∷ codes "mask_fiq" ∷ codes "requests_a"
    ∷ codes "timer_0" ∷ codes "count_0" ∷ codes "timer_1" ∷ codes "count_1" ∷ []

abbrev pub vidc_keys : List (List ℕ)
vidc_keys =
    codes "horizontal_cycle" ∷ codes "vertical_cycle" ∷ codes "display_end" ∷ codes "pixel_rate"
    ∷ codes "ticks" ∷ []

-- ## Names of modes

abbrev pub named_mode : List ℕ → Option Mode
named_mode w = if bytes_eq w (codes "user") then Some User else (if bytes_eq w (codes "fiq") then Some Fiq
    else
    (if bytes_eq w (codes "irq") then Some Irq
    else (if bytes_eq w (codes "svc") then Some Svc else None)))
