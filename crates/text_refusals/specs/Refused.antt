-- What is named of a statement that is refused: first what is wrong with the whole, and then the values and
-- the tables that show where its document has the fault, in the order of the text, twenty at most.
use Rattle.std.specs.Prelude.{◌≡◌, ◌≤◌, ◌⊎◌, ◌↔◌, ◌==◌, ◌&&◌, ◌+◌, zero, suc, Bool, true, false, ℕ}
use Rattle.std.specs.Prelude.{List, [], ◌∷◌, ◌++◌, length, take, drop, codes, decimal, count_by}
use Rattle.std.specs.Prelude.{Option, Some, None, IsSome, IsUtf8, if◌then◌else◌}
use Rattle.std.specs.Str.{bytes_eq}
use Rattle.image.specs.Labels.{NamedAddresses, address_of}
use Rattle.toml.specs.Data.{Members}
use Rattle.toml.specs.Parse.{parse_document}
use Rattle.toml_reading.specs.Documents.{IsDocument, IsNoDocument}
use Rattle.statement.specs.PlaceTests.{holds_of}
use Rattle.statement.specs.Places.{IsFaultAt, all_keys, key_name, keys_of, list_key, most_of, named_key}
use Rattle.statement.specs.declared.entries.TheConstants.{MOST_DESTINATIONS}
use Rattle.statement.specs.declared.faults.StatementFault.{StatementFault}
use Rattle.statement.specs.declared.faults.StatementFault.TheVariants.{NotToml}
use Rattle.statement.specs.declared.reading.TheConstants.{MOST_STRETCHES}
use Rattle.statement.specs.declared.spots.Key.{Key}
use Rattle.statement.specs.declared.spots.Key.TheVariants as key
use Rattle.statement.specs.declared.spots.Part.TheVariants as part
use Rattle.statement.specs.declared.spots.Spot.{Spot}
use Rattle.statement.specs.declared.spots.Spot.TheVariants.{Listed, Misplaced, NoList, Own, TooMany}
use Rattle.statement.specs.declared.spots.Spot.TheVariants.{Reversed, TooManyDestinations, Unwanted}
use Rattle.statement.specs.declared.spots.Spot.TheVariants.{NoStretch, NoStretches, TooManyStretches}
use Rattle.statement.specs.declared.spots.TableList.{TableList}
use Rattle.statement.specs.declared.spots.TableList.TheVariants.{Loops, Targets, Accesses, Rules, Multiplies}
use Rattle.statement.specs.declared.spots.TableList.TheVariants.{Branches}
use Rattle.text_refusals.specs.Courses.{after, at_front, begun, entry_list, is_at_key, is_stretch}
use Rattle.text_refusals.specs.Courses.{is_stretch_table, key_head, named_list}
use Rattle.text_refusals.specs.FaultyItems.{has_no_stretch, has_no_stretches, has_reversed_stretch, is_faulty}
use Rattle.text_refusals.specs.FaultyItems.{has_unknown, has_value, lent}
use Rattle.text_refusals.specs.Nearest.{meant_text}
use Rattle.text_refusals.specs.Outline.{Array, Bare, Begins, Cut, Ends, InlineTable, Item, KeyValue, Quoted}
use Rattle.text_refusals.specs.Outline.{States, Table, TableKeys, Value, items_of}
use Rattle.text_refusals.specs.declared.course.Course.{Course}
use Rattle.text_refusals.specs.declared.statements.Limit as declared
use Rattle.text_refusals.specs.declared.report.Report.{Report}
use Rattle.text_refusals.specs.declared.word_rows.TheConstants.{MOST_LINES}

-- ## Rows

-- the number of a line, and what is said of it
pub record Row : Type 0 where
  pub line : ℕ
  pub text : List ℕ

abbrev pub row_text : Row → List ℕ
row_text row = codes "line " ++ (decimal row.line ++ (codes ": " ++ (row.text ++ codes "\n")))

-- the texts of so many rows at most
unfoldable pub shown : ℕ → List Row → List ℕ
shown zero rows = []
shown (suc n) [] = []
shown (suc n) (row ∷ rows) = row_text row ++ shown n rows

-- a value as it is in the text, without what is in an array or a table, and of a text what its line has
abbrev pub value_text : Value → List ℕ
value_text (Bare w) = w
value_text (Quoted quotes w) = quotes ++ (w ++ quotes)
value_text (Cut quotes w) = quotes ++ w
value_text (Array is_empty) = if is_empty then codes "[]" else codes "[..]"
value_text (InlineTable is_empty) = if is_empty then codes "{}" else codes "{..}"

abbrev pub value_row : KeyValue → Row
value_row p = record { line = p.line; text = p.key ++ (codes " = " ++ value_text p.value) }

-- a value, and what is said of it
abbrev pub said_row : KeyValue → List ℕ → Row
said_row p words = record { line = p.line; text = (value_row p).text ++ words }

abbrev pub name_text : Table → List ℕ
name_text t =
    if t.is_listed then codes "[[" ++ (t.name ++ codes "]]") else codes "[" ++ (t.name ++ codes "]")

-- a table, what is said of it, and what follows
abbrev pub table_row : Table → (words rest : List ℕ) → Row
table_row t words rest = record { line = t.line; text = name_text t ++ (words ++ rest) }

-- the row, where it applies
abbrev pub row_if : Bool → Row → List Row
row_if b row = if b then row ∷ [] else []

-- ## What may stand at a key

-- of which table the key is none
abbrev pub unknown_words : Option TableList → List ℕ
unknown_words None = codes " is no key of statements"
unknown_words (Some Loops) = codes " is no key of [[loop]]"
unknown_words (Some Targets) = codes " is no key of [[target]]"
unknown_words (Some Accesses) = codes " is no key of [[access]]"
unknown_words (Some Rules) = codes " is no key of [[base]]"
unknown_words (Some Multiplies) = codes " is no key of [[multiply]]"
unknown_words (Some Branches) = codes " is no key of [[branch]]"

-- and which of its keys that may be
abbrev pub unknown_text : Option TableList → List ℕ → List ℕ
unknown_text list word = unknown_words list ++ meant_text (keys_of list) word

-- the words or numbers that may be its value; nothing where that may be an address
abbrev pub wanted_words : Key → List ℕ
wanted_words key.Entry = []
wanted_words key.Leave = codes " has to be \"any\", \"ram\", \"rom\" or \"io\""
wanted_words key.Returns = codes " has to be \"assumed\" or \"stated\""
wanted_words key.Header = []
wanted_words key.First = []
wanted_words key.Last = []
wanted_words key.Bound = codes " has to be a whole number from 0 to 1048576"
wanted_words key.At = []
wanted_words key.Kind = codes " has to be \"jump\", \"call\", \"return\" or \"leave\""
wanted_words key.To = []
wanted_words key.Class =
    codes " has to be \"any\", \"ram\", \"rom\", \"io\", \"slow\", \"medium\", \"fast\" or \"synchronous\""
wanted_words key.Register = codes " has to be \"R0\" to \"R15\", \"SP\", \"LR\" or \"PC\""
wanted_words key.Cycles = codes " has to be a whole number from 1 to 16"
wanted_words key.Taken = codes " has to be \"always\" or \"never\""

abbrev pub wanted_at : Option Key → List ℕ
wanted_at None = []
wanted_at (Some k) = wanted_words k

-- what may stand at the key of a value, where that is what has the fault
abbrev pub wanted_of : (has : Spot → Bool) → Course → KeyValue → List ℕ
wanted_of has c p = if has_value has c p then wanted_at (named_key (key_head p.key)) else []

-- what is said of a faulty value: that its key is none of its table's, or what may stand there
abbrev pub value_words : (has : Spot → Bool) → Course → KeyValue → List ℕ
value_words has c p =
    if has_unknown has c p then unknown_text (named_list p.list) (key_head p.key)
    else wanted_of has c p

-- the lists that a statement may have
abbrev pub list_names : List (List ℕ)
list_names =
    codes "loop" ∷ codes "target" ∷ codes "access" ∷ codes "base" ∷ codes "multiply" ∷ codes "branch" ∷ []

-- ## Items that are counted

-- the first of a list
abbrev pub first_item : {A : Type 0} → List A → Option A
first_item [] = None
first_item (x ∷ xs) = Some x

-- the first of a list after so many
abbrev pub first_after : {A : Type 0} → ℕ → List A → Option A
first_after most xs = first_item (drop most xs)

-- the values at the key, in so many arrays, before the next table
unfoldable pub stated_at : (depth : ℕ) → (key : List ℕ) → List Item → List KeyValue
stated_at depth key [] = []
stated_at depth key (Begins t ∷ items) = []
stated_at depth key (States p ∷ items) =
    if is_at_key depth key p then p ∷ stated_at depth key items else stated_at depth key items
stated_at depth key (Ends ∷ items) = []

-- the tables of the list
unfoldable pub tables_in : List ℕ → List Item → List Table
tables_in list [] = []
tables_in list (Begins t ∷ items) =
    if bytes_eq t.name list then t ∷ tables_in list items else tables_in list items
tables_in list (States p ∷ items) = tables_in list items
tables_in list (Ends ∷ items) = tables_in list items

-- the row of a destination that comes after those that its target may have
abbrev pub extra_destination_row : Option KeyValue → List Row
extra_destination_row None = []
extra_destination_row (Some p) =
    said_row p (codes " comes after the 64 destinations that a target may have") ∷ []

-- the item is an entry of the list of stretches apart
abbrev pub is_stretch_item : Item → Bool
is_stretch_item (Begins t) = is_stretch_table t
is_stretch_item (States p) = is_stretch p
is_stretch_item Ends = false

-- those that are
unfoldable pub stretches_in : List Item → List Item
stretches_in [] = []
stretches_in (i ∷ items) = if is_stretch_item i then i ∷ stretches_in items else stretches_in items

abbrev pub past_stretches : List ℕ
past_stretches = codes " comes after the 256 stretches that a statement may have"

-- the row of an item that comes after the stretches apart that there may be
abbrev pub past_stretches_rows : Item → List Row
past_stretches_rows (Begins t) = table_row t past_stretches [] ∷ []
past_stretches_rows (States p) = said_row p past_stretches ∷ []
past_stretches_rows Ends = []

abbrev pub extra_stretch_row : Option Item → List Row
extra_stretch_row None = []
extra_stretch_row (Some i) = past_stretches_rows i

-- ## Of a table

-- by which spots of the document have the fault
module _ (has : Spot → Bool) where
  -- an entry of a list has no such key
  abbrev pub missing_row : TableList → ℕ → Table → Key → List Row
  missing_row list n t key =
      row_if (has (Listed list n (part.Missing key))) (table_row t (codes " has no ") (key_name key))

  abbrev pub missing_rows : TableList → ℕ → Table → List Key → List Row
  missing_rows list n t [] = []
  missing_rows list n t (key ∷ keys) = missing_row list n t key ++ missing_rows list n t keys

  -- the row of the first destination after those that a target may have
  abbrev pub long_rows : ℕ → List Item → List Row
  long_rows n items =
      if has (TooManyDestinations n)
      then extra_destination_row (first_after MOST_DESTINATIONS (stated_at 1 (codes "to") items)) else []

  abbrev pub unwanted_rows : ℕ → Table → List Row
  unwanted_rows n t = row_if (has (Unwanted n)) (table_row t (codes " may have no to") [])

  abbrev pub target_rows : ℕ → Table → List Item → List Row
  target_rows n t items = unwanted_rows n t ++ long_rows n items

  abbrev pub misplaced_rows : ℕ → Table → List Row
  misplaced_rows n t =
      row_if (has (Misplaced n)) (table_row t (codes " has its header outside first to last, or only one of these apart") [])

  abbrev pub reversed_rows : ℕ → Table → List Row
  reversed_rows n t = row_if (has (Reversed n)) (table_row t (codes " has its last before its first") [])

  -- what is wrong with an entry of the list, but for its keys
  abbrev pub list_rows : TableList → ℕ → Table → List Item → List Row
  list_rows Loops n t items = misplaced_rows n t
  list_rows Targets n t items = target_rows n t items
  list_rows Accesses n t items = []
  list_rows Rules n t items = reversed_rows n t
  list_rows Multiplies n t items = []
  list_rows Branches n t items = []

  -- what is wrong with the entry of the list with that number, by the items after its line
  abbrev pub entry_rows : TableList → ℕ → Table → List Item → List Row
  entry_rows list n t items = missing_rows list n t all_keys ++ list_rows list n t items

  abbrev pub unknown_rows : Table → List Row
  unknown_rows t =
      row_if (has (Own (part.Unknown (lent (key_head t.name)))))
      (table_row t (codes " is no list of statements") (meant_text list_names (key_head t.name)))

  abbrev pub no_table_rows : Table → List Row
  no_table_rows t =
      row_if (holds_of (λ key. has (Own (part.Value key))) (named_key (key_head t.name)))
      (table_row t (codes " may be no table") [])

  abbrev pub no_list_rows : Table → List Row
  no_list_rows t =
      row_if (holds_of (λ list. has (NoList list)) (named_list (key_head t.name)))
      (table_row t (codes " has to be in double brackets") [])

  abbrev pub value_table_rows : Table → List Row
  value_table_rows t = no_table_rows t ++ no_list_rows t

  -- a table stands for the stretches apart
  abbrev pub apart_table_rows : Table → List Row
  apart_table_rows t =
      row_if (bytes_eq (key_head t.name) (codes "apart") && has NoStretches)
      (table_row t (codes " may be no table") [])

  -- or for one of them
  abbrev pub stretch_table_rows : Course → Table → List Row
  stretch_table_rows c t =
      row_if (is_stretch_table t && has (NoStretch c.stretches)) (table_row t (codes " may be no table") [])

  abbrev pub stretch_header_rows : Course → Table → List Row
  stretch_header_rows c t = apart_table_rows t ++ stretch_table_rows c t

  -- a table that is no entry of a list stands for a value of the statement
  abbrev pub header_rows : Course → Table → List Row
  header_rows c t = unknown_rows t ++ (value_table_rows t ++ stretch_header_rows c t)

  abbrev pub rows_of_table : Course → Table → List Item → Option TableList → List Row
  rows_of_table c t items None = header_rows c t
  rows_of_table c t items (Some list) = entry_rows list (begun list c) t items

  abbrev pub table_rows : Course → Table → List Item → List Row
  table_rows c t items = rows_of_table c t items (entry_list t)

  -- ## Of a text

  -- what is wrong with one stretch apart
  abbrev pub one_stretch_rows : Course → KeyValue → List Row
  one_stretch_rows c p =
      row_if (has_no_stretch has c p) (said_row p (codes " has to be a list of two addresses"))
      ++ row_if (has_reversed_stretch has c p) (said_row p (codes " ends before it begins"))

  -- the same, or with the list of them
  abbrev pub stretch_rows : Course → KeyValue → List Row
  stretch_rows c p =
      row_if (has_no_stretches has p) (said_row p (codes " has to be a list of lists of two addresses"))
      ++ one_stretch_rows c p

  abbrev pub value_rows : Course → KeyValue → List Row
  value_rows c p = row_if (is_faulty has c p) (said_row p (value_words has c p)) ++ stretch_rows c p

  abbrev pub item_rows : Course → Item → List Item → List Row
  item_rows c (Begins t) items = table_rows c t items
  item_rows c (States p) items = value_rows c p
  item_rows c Ends items = []

  unfoldable pub rows : Course → List Item → List Row
  rows c [] = []
  rows c (i ∷ items) = item_rows c i items ++ rows (after c i) items

-- a list, and what is said of the first of its tables after those that a statement may have
pub record Limit : Type 0 where
  pub list : TableList
  pub words : List ℕ

abbrev pub loop_limit : Limit
loop_limit = record { list = Loops; words = codes " comes after the 256 loops that a statement may have" }

abbrev pub target_limit : Limit
target_limit =
    record { list = Targets; words = codes " comes after the 1024 targets that a statement may have" }

abbrev pub access_limit : Limit
access_limit =
    record { list = Accesses; words = codes " comes after the 4096 accesses that a statement may have" }

abbrev pub rule_limit : Limit
rule_limit = record { list = Rules; words = codes " comes after the 256 rules that a statement may have" }

abbrev pub multiply_limit : Limit
multiply_limit =
    record { list = Multiplies; words = codes " comes after the 1024 multiplies that a statement may have" }

abbrev pub branch_limit : Limit
branch_limit =
    record { list = Branches; words = codes " comes after the 1024 branches that a statement may have" }

-- the lists in the order in which they are looked at
abbrev pub limits : List Limit
limits =
    loop_limit ∷ target_limit ∷ access_limit ∷ rule_limit ∷ multiply_limit ∷ branch_limit ∷ []

abbrev pub extra_table_row : Limit → Option Table → List Row
extra_table_row limit None = []
extra_table_row limit (Some t) = table_row t limit.words [] ∷ []

module _ (has : Spot → Bool) where
  -- of a list that is too long the first table after as many as there may be
  abbrev pub extra_row : Limit → List Item → List Row
  extra_row limit items =
      if has (TooMany limit.list)
      then extra_table_row limit (first_after (most_of limit.list) (tables_in (list_key limit.list) items))
      else []

  abbrev pub rows_of_limits : List Limit → List Item → List Row
  rows_of_limits [] items = []
  rows_of_limits (limit ∷ limits) items = extra_row limit items ++ rows_of_limits limits items

  -- the row of the first stretch apart after those that there may be
  abbrev pub extra_stretch_rows : List Item → List Row
  extra_stretch_rows items =
      if has TooManyStretches then extra_stretch_row (first_after MOST_STRETCHES (stretches_in items)) else []

  abbrev pub extra_rows : List Item → List Row
  extra_rows items = rows_of_limits limits items ++ extra_stretch_rows items

  -- that there is no entry, and the lists that are too long
  abbrev pub whole_rows : List Item → List Row
  whole_rows items =
      row_if (has (Own (part.Missing key.Entry)))
      (record { line = 1; text = codes "the statement has no entry" })
      ++ extra_rows items

  abbrev pub all_rows : List Item → List Row
  all_rows items = whole_rows items ++ rows has at_front items

-- the keys of a statement whose values are tables
abbrev pub statement_tables : TableKeys
statement_tables =
    record {
      lists = list_names;
      tables = [];
    }

-- of the text of a document the rows where that has the fault
pub record AreRows {S F : Type 0} (IsAt : Members → S → F → Type 0)
    (rows : (S → Bool) → List Item → List Row) (keys : TableKeys) (text : List ℕ) (fault : F)
    (out : List ℕ) : Type 0 where
  pub members : Members
  pub document : IsDocument text members
  pub has : S → Bool
  pub tells : (s : S) → has s ≡ true ↔ IsAt members s fault
  pub out_is : out ≡ shown MOST_LINES (rows has (items_of keys text))

-- those, or none of a text that is no document
abbrev pub IsRowsText : {S F : Type 0} → (Members → S → F → Type 0) → ((S → Bool) → List Item → List Row)
    → TableKeys → List ℕ → F → List ℕ → Type 0
IsRowsText IsAt rows keys text fault out =
    AreRows IsAt rows keys text fault out ⊎ (IsNoDocument text × (out ≡ []))

-- ## Of a text that is no TOML: a line of it

abbrev pub feeds : List ℕ → ℕ
feeds text = count_by (λ b. b == 10) text

abbrev pub toml_row : ℕ → List ℕ
toml_row number = codes "line " ++ (decimal number ++ codes " is no TOML\n")

-- of the line that holds a byte of the text, or its end
abbrev pub toml_row_at : List ℕ → ℕ → List ℕ
toml_row_at text at = toml_row (feeds (take at text) + 1)

-- the row of a byte's line. Which byte is not said: the contract of the kit's
-- reader of TOML says of the place where it stopped that it lies in the text, and no more.
pub record IsTomlFaultText (text out : List ℕ) : Type 0 where
  pub no_toml : IsUtf8 text → parse_document text ≡ None
  pub at : ℕ
  pub inside : at ≤ length text
  pub out_is : out ≡ toml_row_at text at

-- of a document nothing
pub record IsNoFaultText (text out : List ℕ) : Type 0 where
  pub utf8 : IsUtf8 text
  pub parsed : IsSome (parse_document text)
  pub out_is : out ≡ []

abbrev pub IsTomlText : List ℕ → List ℕ → Type 0
IsTomlText text out = IsTomlFaultText text out ⊎ IsNoFaultText text out

abbrev pub IsStatementText : NamedAddresses → List ℕ → StatementFault → List ℕ → Type 0
IsStatementText names text NotToml out = IsTomlText text out
IsStatementText names text fault out =
    IsRowsText (IsFaultAt (address_of names)) all_rows statement_tables text fault out

-- ## As the code has them

abbrev pub limit_of : declared.Limit → Limit
limit_of l = record { list = l.list; words = l.words.now }

-- ## Rows one after another, which clauses of private calls speak of

-- the rows are added, as far as there is room
pub record Adds (rows : List Row) (old new : Report) : Type 0 where
  pub same : (more : List Row)
      → new.text.items ++ shown new.left more ≡ old.text.items ++ shown old.left (rows ++ more)
