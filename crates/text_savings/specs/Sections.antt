-- What better entries of a statement would save, as text.
use Rattle.std.specs.Prelude.{◌≡◌, ℕ, List, [], ◌++◌, codes, decimal, length, Option, Some, None}
use Rattle.std.specs.Prelude.{if◌then◌else◌, nat_le}
use Rattle.sources.specs.Lines.{line_of}
use Rattle.sources.specs.declared.read.Source.{Source}
use Rattle.sources.specs.declared.read.SourceText.{SourceText}
use Rattle.sources.specs.declared.read.SourceText.TheVariants.{Lines, Image}
use Rattle.text_rows.specs.Columns.{in_columns}
use Rattle.statement.specs.Statement.{class_name}
use Rattle.text_rows.specs.Rows.{IsShownRow, address_row, named_row, section}
use Rattle.control_flow.specs.Flow.{Flow}
use Rattle.control_flow.specs.declared.edges.Edge.{Edge}
use Rattle.statement.specs.Stated.{Stated}
use Rattle.text_rows.specs.Rows.{AreRows}
use Rattle.text_rows.specs.WordLines.{Numbered}
use Rattle.text_savings.specs.Savings.{AreSavings, together}
use Rattle.text_savings.specs.declared.classes.ClassChange.{ClassChange}
use Rattle.image.specs.Image.{Words}
use Rattle.text_savings.specs.declared.gains.Operands.{Operands}
use Rattle.text_savings.specs.declared.gains.Operands.TheVariants.{Exchangeable, Fixed}
use Rattle.text_savings.specs.declared.gains.Refinement.{Refinement}
use Rattle.text_savings.specs.declared.gains.Refinement.TheVariants.{Addresses, Multiplier}
use Rattle.text_savings.specs.declared.saving.Saving.{Saving}
use Rattle.text_savings.specs.declared.saving.Subject.{Subject}
use Rattle.text_savings.specs.declared.saving.Subject.TheVariants.{Leave, Word}

-- ## Rows

-- one class in place of another
abbrev pub change_text : ClassChange → List ℕ
change_text change = class_name change.better ++ (codes " for " ++ class_name change.present)

-- a cycle less, for which the operands may be exchanged where that is possible
abbrev pub multiplier_text : Operands → List ℕ
multiplier_text Exchangeable = codes "m = 15 swap Rm,Rs?"
multiplier_text Fixed = codes "m = 15"

abbrev pub refinement_text : Refinement → List ℕ
refinement_text (Multiplier operands) = multiplier_text operands
refinement_text (Addresses change) = change_text change

abbrev pub entry_text : Subject → Refinement → List ℕ
entry_text (Word at word) refinement = refinement_text refinement
entry_text Leave refinement = codes "leave " ++ refinement_text refinement

-- the ticks, and what the entry would be
abbrev pub front_text : Saving → List ℕ
front_text s = in_columns 9 (decimal s.ticks) ++ in_columns 19 (entry_text s.subject s.refinement)

-- up to the end of the line
abbrev pub IsSavingRow : ((used : ℕ) → Subject → List ℕ → Type 0) → Saving → List ℕ → Type 0
IsSavingRow IsEnd s row =
    (end : List ℕ) × IsEnd (length (front_text s)) s.subject end × (row ≡ front_text s ++ end)

-- the address, and the number and the text of its line
abbrev pub line_row : (used at : ℕ) → Option Numbered → List ℕ
line_row used at None = address_row at
line_row used at (Some line) = named_row used at line.number line.text

abbrev pub IsLineEnd : (ℕ → Option Numbered) → (used : ℕ) → Subject → List ℕ → Type 0
IsLineEnd line used (Word at word) end = end ≡ line_row used at (line at)
IsLineEnd line used Leave end = end ≡ codes "\n"

-- the address, the word and its line
abbrev pub IsImageEnd : (used : ℕ) → Subject → List ℕ → Type 0
IsImageEnd used (Word at word) end = IsShownRow used (at, word) end
IsImageEnd used Leave end = end ≡ codes "\n"

-- where these are the lines of the words: by a text's lines, or by an image's words
abbrev pub IsEndIn : SourceText → (ℕ → Option Numbered) → (used : ℕ) → Subject → List ℕ → Type 0
IsEndIn (Lines bytes placed) line = IsLineEnd line
IsEndIn Image line = IsImageEnd

-- the rows of savings
abbrev pub AreSavingRows : Source → List Saving → List ℕ → Type 0
AreSavingRows source = AreRows (IsSavingRow (IsEndIn source.text (line_of source)))

-- ## The section

abbrev pub heading : List ℕ
heading = codes "\nWhat would save most, in ticks at most (state only what is true):\n"

-- what they save together at most
abbrev pub together_row : List Saving → List ℕ
together_row list =
    in_columns 9 (decimal (together list)) ++ (in_columns 19 (codes "together at most") ++ codes "\n")

-- where there are several
abbrev pub total_row : List Saving → List ℕ
total_row list = if nat_le (length list) 1 then [] else together_row list

-- a row for each saving, at a word of an image or on the way out, under the heading, by the lines of a
-- source, and last what they save together; nothing where there are none
pub record IsSavingsText (source : Source) (image : Words) (st : Stated) (flow : Flow) (walk : List Edge)
    (text : List ℕ) : Type 0 where
  pub list : List Saving
  pub rows : List ℕ
  pub are_savings : AreSavings image st flow walk list
  pub are_rows : AreSavingRows source list rows
  pub text_is : text ≡ section heading (rows ++ total_row list)
