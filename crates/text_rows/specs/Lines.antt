-- Rows of a text for the lines of a source, or for their words.
use Rattle.std.specs.Prelude.{ℕ, zero, suc, ◌+◌, List, [], ◌∷◌, ◌++◌}
use Rattle.assembler.specs.declared.placed_line.PlacedLine.{PlacedLine}

-- the rows of lines, each where it is placed, with numbers from one on
abbrev pub rows_by_line : (ℕ → List ℕ → PlacedLine → List ℕ) → ℕ → List (List ℕ) → List PlacedLine → List ℕ
rows_by_line rows n (text ∷ lines) (p ∷ placed) = rows n text p ++ rows_by_line rows (n + 1) lines placed
rows_by_line rows n _ _ = []

-- a row for each of so many words from an address on
abbrev pub rows_from : (ℕ → List ℕ) → (from count : ℕ) → List ℕ
rows_from row from zero = []
rows_from row from (suc more) = row from ++ rows_from row (from + 4) more

-- the rows of the words of a line
abbrev pub rows_by_word : (ℕ → List ℕ → ℕ → List ℕ) → ℕ → List ℕ → PlacedLine → List ℕ
rows_by_word row n text p = rows_from (row n text) p.at p.words
