-- How a begun statement has its lists, and rows that go into them.
use Rattle.std.specs.Prelude.{ℕ, ◌==◌, ◌&&◌, ◌||◌, Bool, true, false, not, nat_eq, if◌then◌else◌, List, []}
use Rattle.std.specs.Prelude.{◌∷◌, ◌++◌, codes, drop, length}
use Rattle.std.specs.List.{starts_with}
use Rattle.statement.specs.Stated.{Stated}
use Rattle.text_draft.specs.Closed.{is_blank}
use Rattle.text_draft.specs.declared.forms.Forms.{Forms}
use Rattle.text_draft.specs.declared.forms.ListForm.{ListForm}
use Rattle.text_draft.specs.declared.forms.ListForm.TheVariants.{Rows, Tables, Absent, Other}
use Rattle.text_draft.specs.declared.forms.ListKey.{ListKey}
use Rattle.text_draft.specs.declared.forms.ListKey.TheVariants.{Apart, Base, Access, Loop, Target}
use Rattle.text_draft.specs.declared.forms.LineStart.{LineStart}
use Rattle.text_draft.specs.declared.forms.LineStart.TheVariants.{RowList, TableHead, KeyName}

-- ## Lines

-- the byte ends a line, as 10 and 13 do, or begins a comment: 35 is #
abbrev pub ends_bare : ℕ → Bool
ends_bare byte = (byte == 10) || ((byte == 13) || (byte == 35))

-- nothing but blanks stands in the rest of the line, or a comment
abbrev pub is_bare : List ℕ → Bool
is_bare [] = true
is_bare (byte ∷ rest) = if is_blank byte then is_bare rest else ends_bare byte

abbrev pub key_name : ListKey → List ℕ
key_name Apart = codes "apart"
key_name Base = codes "base"
key_name Access = codes "access"
key_name Loop = codes "loop"
key_name Target = codes "target"

-- what a line begins with that begins a list of rows, and one with the head of a table
abbrev pub opening : ListKey → List ℕ
opening key = key_name key ++ codes " = ["

abbrev pub table_head : ListKey → List ℕ
table_head key = codes "[[" ++ (key_name key ++ codes "]]")

-- the text begins with a line that begins the list of a key, and has none of its rows
abbrev pub opens_rows : ListKey → (text : List ℕ) → Bool
opens_rows key text =
    starts_with nat_eq text (opening key) && is_bare (drop (length (opening key)) text)

-- the text begins with such a line, a table's head, or the key
abbrev pub begins_so : ListKey → LineStart → (text : List ℕ) → Bool
begins_so key RowList text = opens_rows key text
begins_so key TableHead text = starts_with nat_eq text (table_head key)
begins_so key KeyName text = starts_with nat_eq text (key_name key)

-- it holds of what stands behind the end of a line
abbrev pub any_behind : (List ℕ → Bool) → List ℕ → Bool
any_behind holds [] = false
any_behind holds (byte ∷ rest) = ((byte == 10) && holds rest) || any_behind holds rest

-- it holds of the text from the beginning of a line on
abbrev pub any_line : (List ℕ → Bool) → List ℕ → Bool
any_line holds text = holds text || any_behind holds text

-- ## Forms

-- rows that stand by themselves; else tables; else none, where nothing of it is stated and no line begins
-- with the key; else another form
abbrev pub form_of : (text : List ℕ) → ListKey → (is_stated : Bool) → ListForm
form_of text key is_stated =
    if any_line (begins_so key RowList) text then Rows
    else if any_line (begins_so key TableHead) text then Tables
    else if is_stated then Other
    else if any_line (begins_so key KeyName) text then Other
    else Absent

abbrev pub forms_of : (text : List ℕ) → Stated → Forms
forms_of text st =
    record {
      apart = form_of text Apart (not (length st.loops.apart == 0));
      base = form_of text Base (not (length st.rules == 0));
      access = form_of text Access (not (length st.accesses == 0));
      loops = form_of text Loop (not (length st.loops.list == 0));
      targets = form_of text Target (not (length st.targets == 0));
    }

-- ## Rows

module _ (apart rules entries : List ℕ) where
  -- the rows for the list that begins in the first line of the text
  abbrev pub rows_for : (text : List ℕ) → List ℕ
  rows_for text =
      if opens_rows Apart text then apart
      else if opens_rows Base text then rules
      else if opens_rows Access text then entries
      else []

  -- the text with rows behind each line that begins a list, and those for its first line
  abbrev pub with_rows : (first text : List ℕ) → List ℕ
  with_rows first [] = []
  with_rows first (byte ∷ rest) =
      if byte == 10 then byte ∷ (first ++ with_rows (rows_for rest) rest)
      else byte ∷ with_rows first rest

  abbrev pub filled : (text : List ℕ) → List ℕ
  filled text = with_rows (rows_for text) text

-- each line but the first becomes a comment
abbrev pub hashed : List ℕ → List ℕ
hashed [] = []
hashed (byte ∷ rest) =
    if (byte == 10) && not (length rest == 0) then byte ∷ 35 ∷ hashed rest else byte ∷ hashed rest
