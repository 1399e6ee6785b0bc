-- The text of a draft of a begun statement, of what was found.
use Rattle.std.specs.Prelude.{ℕ, Bool, true, false, ◌*◌, ◌+◌, ◌==◌, if◌then◌else◌, List, [], ◌∷◌, ◌++◌}
use Rattle.std.specs.Prelude.{codes, length, not, ◌||◌, Some}
use Rattle.std.specs.BTreeMap.{BTreeMap}
use Rattle.std.specs.List.{flat_map}
use Rattle.bus_ticks.specs.declared.profile.Class.{Class}
use Rattle.statement.specs.Stated.{Stated}
use Rattle.statement.specs.Statement.{class_name}
use Rattle.statement.specs.declared.apart.ApartStretch.{ApartStretch}
use Rattle.text_rows.specs.declared.line_labels.SourceLine.{SourceLine}
use Rattle.text_draft.specs.Closed.{has_mark}
use Rattle.text_draft.specs.DraftText.{apart_text, candidates_text, cycle_text, end_text, entries_text}
use Rattle.text_draft.specs.DraftText.{entry_text, full_text, loop_text, place_text, register_text, rule_text}
use Rattle.text_draft.specs.DraftText.{ground_text, rules_text, stretch_text, target_text, written}
use Rattle.text_draft.specs.Forms.{filled, forms_of, hashed, key_name}
use Rattle.text_draft.specs.Targets.{any_left}
use Rattle.text_draft.specs.declared.accesses.FoundAccess.{FoundAccess}
use Rattle.text_draft.specs.declared.ends.End.{End}
use Rattle.text_draft.specs.declared.forms.Forms.{Forms}
use Rattle.text_draft.specs.declared.forms.ListForm.{ListForm}
use Rattle.text_draft.specs.declared.forms.ListForm.TheVariants.{Rows, Tables, Absent, Other}
use Rattle.text_draft.specs.declared.forms.ListKey.{ListKey}
use Rattle.text_draft.specs.declared.forms.ListKey.TheVariants.{Apart, Base, Access, Loop, Target}
use Rattle.text_draft.specs.declared.found_loop.FoundLoop.{FoundLoop}
use Rattle.text_draft.specs.declared.grounds.Ground.{Ground}
use Rattle.text_draft.specs.declared.pc_writers.FoundTarget.{FoundTarget}
use Rattle.text_draft.specs.declared.rules.FoundRule.{FoundRule}

-- what was found and is not stated
pub record Lacking : Type 0 where
  pub full : Bool
  pub ends : List (ℕ × End)
  pub cycles : List ℕ
  pub apart : List ApartStretch
  pub rules : List FoundRule
  pub entries : List FoundAccess
  pub loops : List FoundLoop
  pub candidates : List ℕ
  pub targets : List FoundTarget

-- nothing has to be stated
abbrev pub is_nothing : Lacking → Bool
is_nothing l =
    length l.apart + (length l.rules + (length l.entries + (length l.loops + length l.targets))) == 0

-- ## Lists of other forms

-- a whole list, where the statement has none
abbrev pub if_absent : ListForm → List ℕ → List ℕ
if_absent Absent text = text
if_absent _ text = []

-- tables, or comments where the statement has the list in another form than rows
abbrev pub if_other : ListForm → (tables comments : List ℕ) → List ℕ
if_other Tables tables comments = tables
if_other Other tables comments = comments
if_other _ tables comments = []

-- what stands in front of rows, or of tables, that are comments
abbrev pub aside_head : ListKey → List ℕ
aside_head Loop = codes "\n# These tables belong into the list "
aside_head Target = codes "\n# These tables belong into the list "
aside_head _ = codes "\n# These rows belong into the list "

-- rows or tables as comments, if there are any
abbrev pub some_aside : ListKey → (rows : List ℕ) → List ℕ
some_aside key rows = aside_head key ++ (key_name key ++ (codes " above:\n#" ++ hashed rows))

abbrev pub aside : ListKey → (rows : List ℕ) → List ℕ
aside key rows = if length rows == 0 then [] else some_aside key rows

-- tables, or comments where the statement has the list in another form than tables
abbrev pub as_tables : ListKey → ListForm → (tables : List ℕ) → List ℕ
as_tables key Tables tables = tables
as_tables key Absent tables = tables
as_tables key Rows tables = aside key tables
as_tables key Other tables = aside key tables

abbrev pub class_line : Class → Ground → List ℕ
class_line class basis =
    codes "class = \""
    ++ (class_name (written class basis) ++ (codes "\"" ++ (ground_text class basis ++ codes "\n")))

abbrev pub rule_table : FoundRule → List ℕ
rule_table r =
    codes "\n[[base]]\nregister = \"" ++ (register_text r.register ++ (codes "\"\n" ++ class_line r.class r.basis))

-- a note on an address follows, or that more is reached
abbrev pub has_notes : Lacking → Bool
has_notes l = l.full || (not (length l.ends == 0) || not (length l.cycles == 0))

-- that something is added; else that a "?" is left; else that all is stated, if no note follows
abbrev pub note_text : (begun : List ℕ) → Lacking → List ℕ
note_text begun l =
    if not (is_nothing l) then codes "\n# Added by draft, beside rows in apart, base and access:\n"
    else if has_mark begun then codes "\n# Draft adds nothing; each \"?\" above is still to be filled in.\n"
    else if has_notes l then codes "\n"
    else codes "\n# Draft adds nothing: all that it asks for is stated.\n"

module _ (lines : BTreeMap ℕ SourceLine) where
  abbrev pub entry_table : FoundAccess → List ℕ
  entry_table e =
      codes "\n[[access]]\n" ++ (place_text lines 0 (codes "at") e.at ++ class_line e.class e.basis)

  -- ## Rows

  abbrev pub apart_rows : List ApartStretch → List ℕ
  apart_rows stretches = flat_map (stretch_text lines) stretches

  abbrev pub rule_rows : List FoundRule → List ℕ
  rule_rows rules = flat_map (rule_text lines) rules

  abbrev pub entry_rows : List FoundAccess → List ℕ
  entry_rows entries = flat_map (entry_text lines) entries

  -- ## Parts

  -- in front of the begun text: the lists that it does not have
  abbrev pub front_text : Forms → Lacking → List ℕ
  front_text forms l =
      if_absent forms.apart (apart_text lines l.apart)
      ++ (if_absent forms.base (rules_text lines l.rules) ++ if_absent forms.access (entries_text lines l.entries))

  -- the begun text, with rows in its lists
  abbrev pub begun_text : (begun : List ℕ) → Lacking → List ℕ
  begun_text begun l = filled (apart_rows l.apart) (rule_rows l.rules) (entry_rows l.entries) begun

  -- notes behind it
  abbrev pub notes_text : (begun : List ℕ) → Lacking → List ℕ
  notes_text begun l =
      note_text begun l
      ++ (full_text l.full ++ (flat_map (end_text lines) l.ends ++ flat_map (cycle_text lines) l.cycles))

  -- what belongs to lists of other forms
  abbrev pub other_text : Forms → Lacking → List ℕ
  other_text forms l =
      if_other forms.apart (aside Apart (apart_rows l.apart)) (aside Apart (apart_rows l.apart))
      ++ (if_other forms.base (flat_map rule_table l.rules) (aside Base (rule_rows l.rules))
      ++ if_other forms.access (flat_map entry_table l.entries) (aside Access (entry_rows l.entries)))

  -- loops and targets
  abbrev pub loops_text : Lacking → List ℕ
  loops_text l = flat_map (loop_text lines) l.loops

  -- addresses to which a "?" may lead, of a stated target or an added one
  abbrev pub named_text : Stated → Lacking → List ℕ
  named_text st l =
      candidates_text lines (codes "above or below") (any_left (Some st) l.targets) l.candidates

  abbrev pub tables_text : Forms → Stated → Lacking → List ℕ
  tables_text forms st l =
      as_tables Loop forms.loops (loops_text l)
      ++ (named_text st l
      ++ as_tables Target forms.targets (flat_map (target_text lines) l.targets))

  -- the whole text
  abbrev pub draft_on_text : (begun : List ℕ) → Stated → Lacking → List ℕ
  draft_on_text begun st l =
      front_text (forms_of begun st) l
      ++ (begun_text begun l
      ++ (notes_text begun l ++ (other_text (forms_of begun st) l ++ tables_text (forms_of begun st) st l)))
