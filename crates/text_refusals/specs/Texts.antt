-- What is printed of a cycle and of an entry.
use Rattle.std.specs.Prelude.{◌≡◌, ℕ, ◌-◌, Bool, true, false, if◌then◌else◌, List, [], ◌∷◌, ◌++◌, codes}
use Rattle.std.specs.Prelude.{decimal, drop, length, map, slice_index_or, Option, Some, None}
use Rattle.std.specs.List.{prefix_len}
use Rattle.std.specs.BTreeMap.{BTreeMap}
use Rattle.asm_text.specs.Pieces.{is_blank}
use Rattle.asm_text.specs.Source.{lines_of}
use Rattle.assembler.specs.Faults.{name}
use Rattle.assembler.specs.declared.fault.LineFault.{LineFault}
use Rattle.assembler.specs.declared.fault.LineFault.TheVariants.{NotText}
use Rattle.control_flow.specs.declared.edges.Edge.{Edge}
use Rattle.control_flow.specs.declared.faults.BuildFault.{BuildFault}
use Rattle.control_flow.specs.declared.faults.BuildFault.TheVariants as build
use Rattle.control_flow.specs.declared.faulty.FaultyPlace.{FaultyPlace}
use Rattle.control_flow.specs.declared.places.Place.{Place}
use Rattle.control_flow.specs.declared.places.Place.TheVariants.{At, Exit}
use Rattle.loop_bounds.specs.declared.loop_instances.LoopInstance.{LoopInstance}
use Rattle.statement.specs.declared.stated.Loop.{Loop}
use Rattle.text_rows.specs.Rows.{AreRows, row_end}
use Rattle.text_rows.specs.Addresses.{name_text}
use Rattle.text_rows.specs.declared.line_labels.SourceLine.{SourceLine}
use Rattle.text_rows.specs.WordLines.{label_at}
use Rattle.text_refusals.specs.Rows.{IsPlaceRow, IsRow}
use Rattle.text_refusals.specs.declared.crossings.Crossing.{Crossing}
use Rattle.text_refusals.specs.declared.mid_entries.MidEntry.{MidEntry}
use Rattle.text_refusals.specs.declared.extents.CycleExtent.{CycleExtent}
use Rattle.text_refusals.specs.declared.nested.DeepPlace.{DeepPlace}
use Rattle.text_refusals.specs.declared.source_faults.FaultyLine.{FaultyLine}
use Rattle.text_refusals.specs.declared.word_lines.WordLines.{WordLines}

-- ## A cycle

abbrev pub key_text : BTreeMap ℕ SourceLine → List ℕ → ℕ → List ℕ
key_text lines key at =
    codes "  " ++ (key ++ (codes " = " ++ (name_text (label_at lines at) at ++ codes "\n")))

-- a loop of a statement without its bound
abbrev pub addresses_text : BTreeMap ℕ SourceLine → CycleExtent → List ℕ
addresses_text lines extent =
    codes "  [[loop]]\n"
    ++ (key_text lines (codes "header") extent.header
    ++ (key_text lines (codes "first") extent.first ++ key_text lines (codes "last") extent.last))

-- with a question mark for its bound
abbrev pub loop_text : BTreeMap ℕ SourceLine → CycleExtent → List ℕ
loop_text lines extent = addresses_text lines extent ++ codes "  bound = \"?\"\n"

-- the row of the place where an edge begins
abbrev pub IsStartRow : WordLines → Edge → List ℕ → Type 0
IsStartRow words e row = IsPlaceRow words e.from row

-- the rows of the cycle's places, and then its loop
pub record IsCycleText (words : WordLines) (cycle : List Edge) (found : CycleExtent)
    (text : List ℕ) : Type 0 where
  pub rows : List ℕ
  pub are_rows : AreRows (IsStartRow words) cycle rows
  pub text_is : text
      ≡ codes "This cycle has no [[loop]]:\n"
      ++ (rows
      ++ (codes "For its statement, with the most times that it turns back for the question mark:\n"
      ++ loop_text words.lines found))

-- ## An entry

-- the row of a place under a line
abbrev pub IsUnder : WordLines → List ℕ → Place → List ℕ → Type 0
IsUnder words heading place text = (row : List ℕ) × IsPlaceRow words place row × (text ≡ heading ++ row)

-- where the edge leads from and to, or where the handler begins
abbrev pub IsEntryFront : WordLines → Place → Option Edge → List ℕ → Type 0
IsEntryFront words place None text =
    IsUnder words (codes "The handler begins in a loop elsewhere than at its header. Here:\n") place text
IsEntryFront words place (Some e) text =
    (from to : List ℕ)
    × IsUnder words (codes "A loop is entered elsewhere than at its header. From here:\n") e.from from
    × IsUnder words (codes "To here:\n") place to × (text ≡ from ++ to)

-- and then the loop's header
pub record IsEntryText (words : WordLines) (entry : MidEntry) (text : List ℕ) : Type 0 where
  pub front : List ℕ
  pub row : List ℕ
  pub is_front : IsEntryFront words entry.place entry.edge front
  pub is_row : IsRow words entry.instance.stated.header row
  pub text_is : text ≡ front ++ (codes "The loop's header:\n" ++ row)

-- ## Loops

-- a loop as a statement has it
abbrev pub stated_text : BTreeMap ℕ SourceLine → Loop → List ℕ
stated_text lines l =
    addresses_text lines (record { header = l.header; first = l.first; last = l.last })
    ++ (codes "  bound = " ++ (decimal l.bound ++ codes "\n"))

-- a line, and under it two loops
abbrev pub two_loops : BTreeMap ℕ SourceLine → List ℕ → (one other : Loop) → List ℕ
two_loops lines heading one other = heading ++ (stated_text lines one ++ stated_text lines other)

abbrev pub shared_text : BTreeMap ℕ SourceLine → (one other : Loop) → List ℕ
shared_text lines = two_loops lines (codes "These two loops have one header:\n")

-- the two loops, a word of both, and one that each has alone
pub record IsCrossingText (words : WordLines) (c : Crossing) (text : List ℕ) : Type 0 where
  pub shared : List ℕ
  pub one_has : List ℕ
  pub other_has : List ℕ
  pub is_shared : IsUnder words (codes "Both have this word:\n") c.shared shared
  pub is_one : IsUnder words (codes "The first alone has this one:\n") c.one_has one_has
  pub is_other : IsUnder words (codes "The second alone has this one:\n") c.other_has other_has
  pub text_is : text
      ≡ two_loops words.lines (codes "These two loops cross:\n") (c.one).stated (c.other).stated
      ++ (shared ++ (one_has ++ other_has))

-- the headers of instances
abbrev pub headers_of : List LoopInstance → List ℕ
headers_of found = map (λ f. f.stated.header) found

-- above a place in so many loops
abbrev pub in_loops : ℕ → List ℕ
in_loops n = codes "This word is in " ++ (decimal n ++ codes " loops; 16 is the most:\n")

-- the place, and then the loops' headers
pub record IsDeepText (words : WordLines) (d : DeepPlace) (text : List ℕ) : Type 0 where
  pub place : List ℕ
  pub rows : List ℕ
  pub is_place : IsUnder words (in_loops (length d.instances.items)) d.place place
  pub are_rows : AreRows (IsRow words) (headers_of d.instances.items) rows
  pub text_is : text ≡ place ++ (codes "Their headers, the outermost loop's first:\n" ++ rows)

-- ## A place without edges

-- above nine calls
abbrev pub nine : List ℕ
nine = codes "Nine calls, each inside the one before it; eight is the most:\n"

-- above a word that leads to an address
abbrev pub leads : List ℕ
leads = codes "No word is there. This leads to it:\n"

-- the calls that a place is inside of, the outermost first, and then its own address
abbrev pub chain_of : Place → List ℕ
chain_of (At calls address) = calls ++ address ∷ []
chain_of Exit = []

-- the rows of their words
abbrev pub IsChainText : WordLines → Place → List ℕ → Type 0
IsChainText words place text =
    (rows : List ℕ) × AreRows (IsRow words) (chain_of place) rows × (text ≡ nine ++ rows)

-- the word where the edge begins; nothing where the handler begins at the place
abbrev pub IsLeadText : WordLines → Option Edge → List ℕ → Type 0
IsLeadText words None text = text ≡ []
IsLeadText words (Some e) text = IsUnder words leads e.from text

-- what shows why the place has no edges
abbrev pub IsFaultText : WordLines → FaultyPlace → BuildFault → List ℕ → Type 0
IsFaultText words faulty build.TooDeep text = IsChainText words faulty.place text
IsFaultText words faulty (build.OutsideImage at) text = IsLeadText words faulty.edge text
IsFaultText words faulty _ text = IsPlaceRow words faulty.place text

-- ## Lines that cannot be assembled

abbrev pub without_blanks : List ℕ → List ℕ
without_blanks text = drop (prefix_len is_blank text) text

-- the text of the line with a number, without the blanks in front; empty where the source has no such line
abbrev pub text_at : (source : List ℕ) → (number : ℕ) → List ℕ
text_at source number = without_blanks (slice_index_or (lines_of source) (number - 1) [])

-- the text is shown, but where it may hold bytes that are none of a source's
abbrev pub shows_text : LineFault → Bool
shows_text NotText = false
shows_text _ = true

-- the number of such a line, and what is wrong with it
abbrev pub faulty_front : FaultyLine → List ℕ
faulty_front line = codes "line " ++ (decimal line.number ++ (codes ": " ++ name line.fault))

-- and its text
abbrev pub faulty_row : (source : List ℕ) → FaultyLine → List ℕ
faulty_row source line =
    if shows_text line.fault
    then row_end 0 (faulty_front line ++ codes ": ") (text_at source line.number)
    else faulty_front line ++ codes "\n"

abbrev pub IsFaultyRow : (source : List ℕ) → FaultyLine → List ℕ → Type 0
IsFaultyRow source line row = row ≡ faulty_row source line
