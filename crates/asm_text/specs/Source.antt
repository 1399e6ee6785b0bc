-- The lines of a source.
use Rattle.std.specs.Prelude.{ℕ, ◌==◌, ◌&&◌, not, Bool, false, List, [], ◌∷◌, if◌then◌else◌, option_map}
use Rattle.std.specs.List.{onto_first, prefix_len}
use Rattle.std.specs.Option.{option_copied}
use Rattle.asm_text.specs.Said.{said}
use Rattle.asm_text.specs.Statements.{Parsed}
use Rattle.asm_text.specs.declared.lines.Line.{Line}

-- what a line says, its label by its bytes
abbrev pub line_view : Line → Parsed
line_view line =
    record { label = option_copied line.label; said = option_map said line.statement }

abbrev pub starts_feed : List ℕ → Bool
starts_feed [] = false
starts_feed (b ∷ bs) = b == 10

-- each LF ends a line, with a CR in front of it if there is one; what follows the last LF is a line if
-- it is not empty
unfoldable pub lines_of : List ℕ → List (List ℕ)
lines_of [] = []
lines_of (b ∷ bs) =
    if b == 10 then [] ∷ lines_of bs
    else (if b == 13 && starts_feed bs then lines_of bs else onto_first b (lines_of bs))

-- the bytes in front of the first LF
abbrev pub feed_len : List ℕ → ℕ
feed_len text = prefix_len (λ b. not (b == 10)) text

-- a line without the CR at its end
unfoldable pub without_return : List ℕ → List ℕ
without_return [] = []
without_return (b ∷ []) = if b == 13 then [] else b ∷ []
without_return (b ∷ c ∷ rest) = b ∷ without_return (c ∷ rest)
