-- Addresses as a statement has them.
use Rattle.std.specs.Prelude.{◌≡◌, ◌⊎◌, ℕ, ◌==◌, if◌then◌else◌, List, [], ◌∷◌, ◌++◌, length, codes}
use Rattle.std.specs.Prelude.{Option, Some, None}
use Rattle.asm_text.specs.Hex.{hex8}
use Rattle.image.specs.Labels.{NamedAddresses, address_of}

-- a number of TOML
abbrev pub toml_number : ℕ → List ℕ
toml_number at = codes "0x" ++ hex8 at

-- a label in quotes
abbrev pub quoted : List ℕ → List ℕ
quoted label = 34 ∷ [] ++ (label ++ 34 ∷ [])

-- the label is none, or stands for the address
abbrev pub IsNamed : NamedAddresses → ℕ → List ℕ → Type 0
IsNamed names at label = (label ≡ []) ⊎ (address_of names label ≡ Some at)

-- by its label, or where it has none by its number
abbrev pub label_or_number : List ℕ → ℕ → List ℕ
label_or_number label at = if length label == 0 then toml_number at else quoted label

-- by its line's label, or by its number where it has no line or the line no label
abbrev pub name_text : Option (List ℕ) → ℕ → List ℕ
name_text None at = toml_number at
name_text (Some label) at = label_or_number label at
