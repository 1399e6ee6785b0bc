-- Which label was perhaps meant by the first text of a statement that should be an address and is none.
use Rattle.std.specs.Prelude.{◌≡◌, ◌↔◌, ◌⊎◌, ◌==◌, ◌&&◌, not, ℕ, Bool, true, List, [], ◌∷◌, ◌++◌, codes}
use Rattle.std.specs.Prelude.{map, take, Option, Some, None, if◌then◌else◌}
use Rattle.std.specs.BTreeMap.{BTreeMap, values}
use Rattle.std.specs.List.{prefix_len}
use Rattle.std.specs.Option.{is_some, option_or}
use Rattle.toml.specs.Data.{Members}
use Rattle.toml_reading.specs.Documents.{IsDocument, IsNoDocument}
use Rattle.image.specs.Labels.{NamedAddresses, address_of}
use Rattle.sources.specs.Lines.{AreLines}
use Rattle.sources.specs.declared.read.Source.{Source}
use Rattle.statement.specs.Places.{IsFaultAt}
use Rattle.statement.specs.declared.faults.StatementFault.{StatementFault}
use Rattle.statement.specs.declared.faults.StatementFault.TheVariants.{UnknownLabel}
use Rattle.statement.specs.declared.spots.Spot.{Spot}
use Rattle.text_rows.specs.declared.line_labels.SourceLine.{SourceLine}
use Rattle.text_refusals.specs.Courses.{after, at_front}
use Rattle.text_refusals.specs.FaultyItems.{is_faulty}
use Rattle.text_refusals.specs.Nearest.{asked_text, looks_like}
use Rattle.text_refusals.specs.Outline.{Array, Bare, Begins, Cut, Ends, InlineTable, Item, Quoted, States}
use Rattle.text_refusals.specs.Outline.{Value, items_of}
use Rattle.text_refusals.specs.Refused.{IsStatementText, statement_tables}
use Rattle.text_refusals.specs.declared.course.Course.{Course}

-- ## The name that is no label

-- neither sign of an offset
abbrev pub is_in_name : ℕ → Bool
is_in_name b = not (b == 43) && not (b == 45)

-- the name in a text that stands for an address: what comes before its first sign; labels have none
abbrev pub name_in : List ℕ → List ℕ
name_in text = take (prefix_len is_in_name text) text

-- a text that is whole in its line, as the line has it, escapes and all
abbrev pub whole_text : Value → Option (List ℕ)
whole_text (Bare w) = None
whole_text (Quoted quotes w) = Some w
whole_text (Cut quotes w) = None
whole_text (Array is_empty) = None
whole_text (InlineTable is_empty) = None

module _ (names : NamedAddresses) where
  -- the name in a text, if it is no label
  abbrev pub unknown_name : Option (List ℕ) → Option (List ℕ)
  unknown_name None = None
  unknown_name (Some text) = if is_some (address_of names (name_in text)) then None else Some (name_in text)

  -- by which spots of the document have the fault
  module _ (has : Spot → Bool) where
    -- the name that is no label, of an item that has the fault
    abbrev pub name_at : Course → Item → Option (List ℕ)
    name_at c (Begins t) = None
    name_at c (States p) = if is_faulty has c p then unknown_name (whole_text p.value) else None
    name_at c Ends = None

    -- the first of them
    unfoldable pub first_name : Course → List Item → Option (List ℕ)
    first_name c [] = None
    first_name c (i ∷ items) = option_or (name_at c i) (first_name (after c i) items)

-- ## The question

-- of each word of a source the label, in the order of their addresses: of two labels the one nearer to it,
-- and empty where there is none
abbrev pub word_labels : BTreeMap ℕ SourceLine → List (List ℕ)
word_labels lines = map (λ line. line.label.now) (values lines)

-- the name, and the label that was perhaps meant
abbrev pub question_row : List ℕ → Option (List ℕ) → List ℕ
question_row name None = []
question_row name (Some label) = name ++ (codes " is no label" ++ (asked_text (Some label) ++ codes "\n"))

-- whether the label was meant that the name looks like
abbrev pub question : (labels : List (List ℕ)) → Option (List ℕ) → List ℕ
question labels None = []
question labels (Some name) = question_row name (looks_like labels name)

-- the question about the first name in a text that is no label, by which spots of its document have the fault
abbrev pub AsksOfFirst : Source → (Spot → Bool) → (text out : List ℕ) → Type 0
AsksOfFirst source has text out =
    (lines : BTreeMap ℕ SourceLine) × AreLines source lines
    × (out
    ≡ question (word_labels lines) (first_name source.labels has at_front (items_of statement_tables text)))

-- the question about that of a document
pub record IsAsked (source : Source) (text out : List ℕ) : Type 0 where
  pub members : Members
  pub document : IsDocument text members
  pub has : Spot → Bool
  pub tells : (s : Spot) → has s ≡ true ↔ IsFaultAt (address_of source.labels) members s UnknownLabel
  pub asks : AsksOfFirst source has text out

-- that question where a label is unknown; nothing of another fault, and of a text that is no document
abbrev pub IsQuestion : Source → List ℕ → StatementFault → List ℕ → Type 0
IsQuestion source text UnknownLabel out = IsAsked source text out ⊎ (IsNoDocument text × (out ≡ []))
IsQuestion source text fault out = out ≡ []

-- ## Why a statement is refused

-- the rows where it has the fault, and then the question
pub record IsStatementReason (source : Source) (text : List ℕ) (fault : StatementFault) (out : List ℕ)
    : Type 0 where
  pub rows : List ℕ
  pub asked : List ℕ
  pub are_rows : IsStatementText source.labels text fault rows
  pub is_asked : IsQuestion source text fault asked
  pub out_is : out ≡ rows ++ asked
