-- Lines that are kept for words that are shown again. They are here since clauses of private functions cite
-- them.
use Rattle.std.specs.Prelude.{◌≡◌, ◌≤◌, ℕ, List, take, Option, Some, None, slice_index_or}
use Rattle.assembler.specs.ShownLines.{IsShown}
use Rattle.asm_text.specs.declared.printed_lines.TheConstants.{WORD_LINE_ROOM}
use Rattle.text_trace.specs.declared.shown.ShownLine.{ShownLine}

-- the line that is kept fits its room, and is the one that is shown for its word
pub record IsRight (row : ShownLine) : Type 0 where
  pub fits : row.len ≤ WORD_LINE_ROOM
  pub shown : IsShown row.word row.at (take row.len row.bytes)

-- so is each of them
abbrev pub AreRight : List (Option ShownLine) → Type 0
AreRight rows = (place : ℕ) (row : ShownLine) → slice_index_or rows place None ≡ Some row → IsRight row
