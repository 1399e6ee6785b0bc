-- Words as lines.
use Rattle.std.specs.Prelude.{◌≡◌, ℕ, List, [], ◌∷◌, ◌++◌, codes, Some, None, Ok}
use Rattle.asm_text.specs.Hex.{hex8}
use Rattle.asm_text.specs.Said.{Number, Said, Codes, Refers, Lists}
use Rattle.asm_text.specs.Statements.{line_of}
use Rattle.assembler.specs.Codes.{encoded, refer}

-- the statement's word at an address
abbrev pub Says : Said → ℕ → ℕ → Type 0
Says (Codes c) at word = encoded c at ≡ Ok word
Says (Refers r (Number n)) at word = encoded (refer r at n) at ≡ Ok word
Says (Lists (Number n ∷ [])) at word = n ≡ word
Says _ at word = ⊥

-- after a blank the text is a line of a statement alone, which has the word at the address
abbrev pub AssemblesTo : List ℕ → ℕ → ℕ → Type 0
AssemblesTo text at word =
    (s : Said) × (line_of (32 ∷ text) ≡ Ok (record { label = None; said = Some s })) × Says s at word

-- DCD and eight digits
abbrev pub hex_line : ℕ → List ℕ
hex_line word = codes "DCD &" ++ hex8 word
