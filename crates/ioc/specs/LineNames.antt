-- The names of the interrupt lines, each with its bit, which is that of IOC's lines.
use Rattle.std.specs.Prelude.{ℕ, List, [], ◌∷◌, codes, Option, option_map}
use Rattle.bitflags.specs.Sets.{find_name}
use Rattle.ioc.specs.declared.lines.Lines.{Lines}

abbrev pub line_names : List (List ℕ × ℕ)
line_names =
    (codes "A0", 0x1) ∷ (codes "A1", 0x2) ∷ (codes "A2", 0x4) ∷ (codes "IL0", 0x100) ∷ (codes "B1", 0x200)
    ∷ (codes "B2", 0x400) ∷ (codes "B3", 0x800) ∷ (codes "B4", 0x1000) ∷ (codes "B5", 0x2000)
    ∷ (codes "B6", 0x4000) ∷ (codes "B7", 0x8000) ∷ (codes "F0", 0x10000) ∷ (codes "F1", 0x20000)
    ∷ (codes "F2", 0x40000) ∷ (codes "F3", 0x80000) ∷ (codes "F4", 0x100000) ∷ (codes "F5", 0x200000) ∷ []

-- the line of a name, alone
abbrev pub line_named : List ℕ → Option Lines
line_named name = option_map (λ bits. record { 0 = bits }) (find_name line_names name)
