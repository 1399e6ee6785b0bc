-- The bounds of a handler where the word of a stated target goes to one of its destinations alone.
use Rattle.std.specs.Prelude.{◌≡◌, ℕ, ◌==◌, if◌then◌else◌, Bool, true, false, List, [], ◌∷◌, ◌++◌}
use Rattle.std.specs.Prelude.{Option, Some, None, Result, Ok, Err, codes, decimal, length, option_map}
use Rattle.std.specs.Prelude.{unwrap_or}
use Rattle.std.specs.Map.{keys_of}
use Rattle.asm_text.specs.Hex.{hex8}
use Rattle.bus_ticks.specs.declared.profile.Profile.{Profile}
use Rattle.control_flow.specs.Flow.{Flow}
use Rattle.statement.specs.Stated.{Stated, target_of, with_destinations}
use Rattle.sources.specs.Lines.{line_of}
use Rattle.sources.specs.Source.{IsSource}
use Rattle.sources.specs.declared.read.Source.{Source}
use Rattle.text_rows.specs.Columns.{in_columns}
use Rattle.text_rows.specs.Rows.{AreRows, address_column, section}
use Rattle.text_rows.specs.WordLines.{Numbered}
use Rattle.handlers.specs.Alone.{IsAnswerOf}
use Rattle.handlers.specs.FaultNames.{fault_name}
use Rattle.handlers.specs.Report.{HasGraph}
use Rattle.handlers.specs.declared.fault.ReportFault.{ReportFault}
use Rattle.sources.specs.File.{File}

-- ## Rows

-- the bound in ticks, or the name of the refusal
abbrev pub answer_text : Result ℕ ReportFault → List ℕ
answer_text (Ok bound) = decimal bound ++ codes " ticks"
answer_text (Err fault) = fault_name fault

-- the label of a line; none where there is no line
abbrev pub label_in : Option Numbered → List ℕ
label_in None = []
label_in (Some line) = line.label

-- the end of a row: a label in front of it, if there is one
abbrev pub labelled_end : List ℕ → List ℕ
labelled_end label = if length label == 0 then codes "\n" else codes "  " ++ (label ++ codes "\n")

-- from the word at an address to a destination
abbrev pub way_text : (at to : ℕ) → List ℕ
way_text at to = address_column at ++ (codes " to " ++ hex8 to)

-- the way, the answer and the destination's label
abbrev pub each_row : (at to : ℕ) → (label : List ℕ) → Result ℕ ReportFault → List ℕ
each_row at to label answer =
    way_text at to ++ (codes "  " ++ (in_columns 15 (answer_text answer) ++ labelled_end label))

-- the destinations stated for the word at an address, in the text's order
abbrev pub destinations_at : Stated → ℕ → List ℕ
destinations_at stated at = unwrap_or (option_map (λ target. target.to) (target_of stated at)) []

abbrev pub each_heading : List ℕ
each_heading = codes "\nThe bound with one destination of a target alone:\n"

module _ (read : Source) (stated : Stated) (profile : Profile) where
  -- of the word at an address and a destination: what is answered where it goes there alone
  pub record IsEachRow (at to : ℕ) (row : List ℕ) : Type 0 where
    pub answer : Result ℕ ReportFault
    pub answer_is : IsAnswerOf read.image (with_destinations stated at (to ∷ [])) profile answer
    pub row_is : row ≡ each_row at to (label_in (line_of read to)) answer

  -- a row for each destination of the word at an address
  abbrev pub AreTargetRows : (at : ℕ) → List ℕ → Type 0
  AreTargetRows at rows = AreRows (IsEachRow at) (destinations_at stated at) rows

  -- those of all targets, in the text's order
  abbrev pub AreEachRows : List ℕ → Type 0
  AreEachRows rows = AreRows AreTargetRows (keys_of stated.targets) rows

  -- the rows under their heading; nothing where no target has a destination
  abbrev pub AreEachLines : List ℕ → Type 0
  AreEachLines text = (rows : List ℕ) × AreEachRows rows × (text ≡ section each_heading rows)

-- the section of a source and a statement
pub record IsEachText (source : File) (statement : List ℕ) (profile : Profile) (text : List ℕ) : Type 0 where
  pub read : Source
  pub stated : Stated
  pub flow : Flow
  pub is_read : IsSource source read
  pub graph : HasGraph source statement profile stated flow
  pub lines_are : AreEachLines read stated profile text

-- the same where it is asked for, else nothing
abbrev pub IsAskedEach : Bool → (source : File) (statement : List ℕ) → Profile → List ℕ → Type 0
IsAskedEach true source statement profile text = IsEachText source statement profile text
IsAskedEach false source statement profile text = text ≡ []
