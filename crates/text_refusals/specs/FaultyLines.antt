-- The lines of a source that cannot be assembled: each is what the assembler refuses once only the labels
-- are left of the lines that were found before it.
use Rattle.std.specs.Prelude.{◌≡◌, ◌⊎◌, ◌<◌, ◌-◌, ◌+◌, ◌==◌, ℕ, Bool, true, false, List, [], ◌∷◌, ◌++◌}
use Rattle.std.specs.Prelude.{Result, Ok, Err, if◌then◌else◌, IsPermutation, IsSortedByKey}
use Rattle.std.specs.List.Sorted.{IsStableByKey}
use Rattle.std.specs.Ordering.{nat_cmp}
use Rattle.asm_text.specs.Source.{lines_of}
use Rattle.asm_text.specs.Statements.{Parsed, line_of}
use Rattle.asm_text.specs.declared.statement.TextFault.{TextFault}
use Rattle.image.specs.Labels.{Names}
use Rattle.assembler.specs.Sweeps.{assembled}
use Rattle.assembler.specs.declared.fault.LineFault.{LineFault}
use Rattle.assembler.specs.declared.fault.LineFault.TheVariants.{LabelTwice, TooLong}
use Rattle.image.specs.Image.{Words}
use Rattle.text_rows.specs.LineLabels.{first_word}
use Rattle.text_refusals.specs.declared.source_faults.FaultyLine.{FaultyLine}
use Rattle.text_refusals.specs.declared.word_rows.TheConstants.{MOST_LINES}

-- ## A source without a fault that was found

abbrev pub keeps_label : LineFault → Bool
keeps_label LabelTwice = false
keeps_label _ = true

-- a text, if it can be read as a line
abbrev pub if_read : Result Parsed TextFault → List ℕ → List ℕ
if_read (Ok p) text = text
if_read (Err fault) text = []

-- what stays of a line with the fault: its label, if that can be read and is not itself at fault
abbrev pub label_left : LineFault → List ℕ → List ℕ
label_left fault line =
    if keeps_label fault then if_read (line_of (first_word line)) (first_word line) else []

-- what stays of the line of a number: all of it, but of the faulty one the label
abbrev pub line_left : FaultyLine → ℕ → List ℕ → List ℕ
line_left faulty number line = if number == faulty.number then label_left faulty.fault line else line

-- what stays of lines, the first of which has the number
unfoldable pub lines_left : FaultyLine → ℕ → List (List ℕ) → List ℕ
lines_left faulty number [] = []
lines_left faulty number (line ∷ lines) =
    line_left faulty number line ++ (10 ∷ [] ++ lines_left faulty (number + 1) lines)

-- the source with only the label of the faulty line
abbrev pub without : FaultyLine → List ℕ → List ℕ
without faulty source = lines_left faulty 1 (lines_of source)

-- ## The faults, one by one

abbrev pub IsAssembled : List ℕ → Type 0
IsAssembled source = (made : Words × Names) × (assembled source ≡ Ok made)

abbrev pub IsFaultOf : List ℕ → FaultyLine → Type 0
IsFaultOf source faulty = assembled source ≡ Err (faulty.fault, faulty.number)

-- how many more are looked for: none after TooLong, which all later lines would be
abbrev pub left_after : LineFault → ℕ → ℕ
left_after TooLong left = 0
left_after _ left = left - 1

-- the fault of the source, then that of the source without it, and so on: until it assembles or none is left
abbrev pub AreFaults : ℕ → List ℕ → List FaultyLine → Type 0
AreFaults left source [] = (left ≡ 0) ⊎ IsAssembled source
AreFaults left source (faulty ∷ more) =
    (0 < left) × IsFaultOf source faulty
    × AreFaults (left_after faulty.fault left) (without faulty source) more

-- the faults, twenty at most, by their lines
pub record AreFaultyLines (source : List ℕ) (lines : List FaultyLine) : Type 0 where
  pub found : List FaultyLine
  pub are_faults : AreFaults MOST_LINES source found
  pub same : IsPermutation found lines
  pub ordered : IsSortedByKey (λ (line : FaultyLine). line.number) nat_cmp lines
  pub stable : IsStableByKey (λ (line : FaultyLine). line.number) nat_cmp found lines
