-- Which items of a statement's text show which spots of its document, and when a document is that of the
-- items: so it is for plain lines.
use Rattle.std.specs.Prelude.{◌≡◌, ◌==◌, ◌<◌, ◌≤◌, ◌-◌, ◌⊎◌, ℕ, true, false, List, [], ◌∷◌, codes, length}
use Rattle.std.specs.Prelude.{Contains, Some, None, IsSome, IsSomeAnd}
use Rattle.std.specs.List.{slice_get}
use Rattle.std.specs.Str.{bytes_eq}
use Rattle.toml.specs.Data.{Members, as_table, get_member, member, no_members, string}
use Rattle.toml_reading.specs.Lowest.{entries_at}
use Rattle.statement.specs.Places.{InStretch, InTable, end_of, key_name, list_key, named_key}
use Rattle.statement.specs.declared.spots.Key.TheVariants as key
use Rattle.statement.specs.declared.spots.Part.{Part}
use Rattle.statement.specs.declared.spots.Part.TheVariants.{Missing, Unknown, Value}
use Rattle.statement.specs.declared.spots.Spot.{Spot}
use Rattle.statement.specs.declared.spots.Spot.TheVariants as spot
use Rattle.statement.specs.declared.spots.TableList.{TableList}
use Rattle.statement.specs.declared.spots.TableList.TheVariants.{Loops, Targets, Rules}
use Rattle.text_refusals.specs.Courses.{after, at_front, begun, entry_list, is_at_key, is_destination}
use Rattle.text_refusals.specs.Courses.{is_end, is_stretch, is_stretch_table, key_head, named_list}
use Rattle.text_refusals.specs.Courses.{value_list}
use Rattle.text_refusals.specs.FaultyItems.{is_hidden, second_key}
use Rattle.text_refusals.specs.Outline.{Begins, Ends, Item, KeyValue, Quoted, States, Table}
use Rattle.text_refusals.specs.PlainLines.{PlainLine, Setting}
use Rattle.text_refusals.specs.Refused.{Row, stretches_in, tables_in}
use Rattle.text_refusals.specs.declared.course.Course.{Course}

-- the items, each with where it is
abbrev pub placed : Course → List Item → List (Course × Item)
placed c [] = []
placed c (i ∷ items) = (c, i) ∷ placed (after c i) items

-- ## Which item shows a spot

-- the value shows the part of its table
abbrev pub IsPartOf : KeyValue → Part → Type 0
IsPartOf p (Unknown k) = key_head p.key ≡ k.now
IsPartOf p (Value k) = (named_key (key_head p.key) ≡ Some k) × (is_hidden p ≡ false)
IsPartOf p (Missing k) = ⊥

-- the value shows the spot, by its list, its key and how many arrays it is in
abbrev pub ValueShows : Course → KeyValue → Spot → Type 0
ValueShows c p (spot.Own part) =
    ((length p.list == 0) ≡ true) × ((p.depth == 0) ≡ true) × IsPartOf p part
ValueShows c p (spot.Listed list n part) =
    ((length p.list == 0) ≡ false) × ((p.depth == 0) ≡ true) × (c.entry ≡ Some (list, n)) × IsPartOf p part
ValueShows c p (spot.NoList list) =
    ((length p.list == 0) ≡ true) × ((p.depth == 0) ≡ true) × (named_list (key_head p.key) ≡ Some list)
    × (is_hidden p ≡ false)
ValueShows c p (spot.NoTable list n) =
    (value_list p ≡ Some list) × (begun list c ≡ n) × (is_hidden p ≡ false)
ValueShows c p (spot.Destination n i) =
    (is_destination p ≡ true) × (c.entry ≡ Some (Targets, n)) × (c.destinations ≡ i) × (is_hidden p ≡ false)
ValueShows c p spot.NoStretches =
    ((length p.list == 0) ≡ true) × ((p.depth == 0) ≡ true)
    × (bytes_eq (key_head p.key) (codes "apart") ≡ true)
ValueShows c p (spot.NoStretch n) = (is_stretch p ≡ true) × (c.stretches ≡ n)
ValueShows c p (spot.StretchEnd n i) =
    (is_end p ≡ true) × (c.stretches - 1 ≡ n) × (c.ends ≡ i) × (is_hidden p ≡ false)
ValueShows c p (spot.ReversedStretch n) = (is_stretch p ≡ true) × (c.stretches ≡ n)
ValueShows c p (spot.Second list n) =
    ((length p.list == 0) ≡ false) × (is_at_key 0 (second_key list) p ≡ true) × (c.entry ≡ Some (list, n))
    × (is_hidden p ≡ false)
ValueShows c p _ = ⊥

-- the table stands for the part of the statement
abbrev pub StandsFor : Table → Part → Type 0
StandsFor t (Unknown k) = key_head t.name ≡ k.now
StandsFor t (Value k) = named_key (key_head t.name) ≡ Some k
StandsFor t (Missing k) = ⊥

-- the table is the entry of the list with the number
abbrev pub IsEntry : Course → Table → TableList → ℕ → Type 0
IsEntry c t list n = (entry_list t ≡ Some list) × (begun list c ≡ n)

-- the table shows the spot: as an entry of a list, or as what stands for a value of the statement
abbrev pub TableShows : Course → Table → Spot → Type 0
TableShows c t (spot.Own part) = (entry_list t ≡ None) × StandsFor t part
TableShows c t (spot.NoList list) = (entry_list t ≡ None) × (named_list (key_head t.name) ≡ Some list)
TableShows c t spot.NoStretches =
    (entry_list t ≡ None) × (bytes_eq (key_head t.name) (codes "apart") ≡ true)
TableShows c t (spot.NoStretch n) =
    (entry_list t ≡ None) × (is_stretch_table t ≡ true) × (c.stretches ≡ n)
TableShows c t (spot.Listed list n (Missing k)) = IsEntry c t list n
TableShows c t (spot.Misplaced n) = IsEntry c t Loops n
TableShows c t (spot.Unwanted n) = IsEntry c t Targets n
TableShows c t (spot.Reversed n) = IsEntry c t Rules n
TableShows c t _ = ⊥

abbrev pub Shows : Course → Item → Spot → Type 0
Shows c (Begins t) s = TableShows c t s
Shows c (States p) s = ValueShows c p s
Shows c Ends s = ⊥

-- ## Of which text a document is

-- the document has the spot: the key, the entry or the destination is there
abbrev pub IsThere : Members → Spot → Type 0
IsThere ms (spot.Own (Unknown k)) = IsSome (get_member k.now ms)
IsThere ms (spot.Own (Value k)) = IsSome (get_member (key_name k) ms)
IsThere ms (spot.Own (Missing k)) = ⊥
IsThere ms (spot.NoList list) = IsSome (get_member (list_key list) ms)
IsThere ms (spot.TooMany list) = ⊥
IsThere ms (spot.NoTable list n) =
    IsSomeAnd (slice_get (entries_at (list_key list) ms) n) (λ d. as_table d ≡ None)
IsThere ms (spot.Listed list n (Unknown k)) = InTable list n ms (λ t. IsSome (get_member k.now t))
IsThere ms (spot.Listed list n (Value k)) = InTable list n ms (λ t. IsSome (get_member (key_name k) t))
IsThere ms (spot.Listed list n (Missing k)) = InTable list n ms (λ t. Unit {0})
IsThere ms (spot.Misplaced n) = InTable Loops n ms (λ t. Unit {0})
IsThere ms (spot.Unwanted n) = InTable Targets n ms (λ t. Unit {0})
IsThere ms (spot.Reversed n) = InTable Rules n ms (λ t. Unit {0})
IsThere ms (spot.TooManyDestinations n) = ⊥
IsThere ms (spot.Destination n i) =
    InTable Targets n ms (λ t. IsSome (slice_get (entries_at (codes "to") t) i))
IsThere ms spot.NoStretches = IsSome (get_member (codes "apart") ms)
IsThere ms spot.TooManyStretches = ⊥
IsThere ms (spot.NoStretch n) = IsSome (slice_get (entries_at (codes "apart") ms) n)
IsThere ms (spot.StretchEnd n i) = InStretch n ms (λ ends. IsSome (end_of ends i))
IsThere ms (spot.ReversedStretch n) = InStretch n ms (λ ends. Unit {0})
IsThere ms (spot.Second list n) = InTable list n ms (λ t. IsSome (get_member (second_key list) t))

-- Each spot that the document has is shown by an item; each entry of a list has a table of its own, and each
-- stretch apart an item; and no target has more destinations than it may have. So it is for plain lines,
-- which have no arrays.
pub record AreOf (items : List Item) (ms : Members) : Type 0 where
  pub shown : (s : Spot) → IsThere ms s
      → (c : Course) × (i : Item) × Contains (placed at_front items) (c, i) × Shows c i s
  pub tables : (list : TableList)
      → length (entries_at (list_key list) ms) ≤ length (tables_in (list_key list) items)
  pub stretches : length (entries_at (codes "apart") ms) ≤ length (stretches_in items)
  pub short : (n : ℕ) → InTable Targets n ms (λ t. 64 < length (entries_at (codes "to") t)) → ⊥

-- ## Which row is of which spot

abbrev pub line_of : Item → ℕ
line_of (Begins t) = t.line
line_of (States p) = p.line
line_of Ends = 0

-- The row is of the spot: that there is no entry is on the first line, that a list is too long on the line of
-- one of its tables, or of its stretches, that a target is too long on the line of a destination, and another
-- fault on the line of an item that shows its spot.
abbrev pub IsRowOf : List Item → Row → Spot → Type 0
IsRowOf items row s =
    ((s ≡ spot.Own (Missing key.Entry)) × (row.line ≡ 1))
    ⊎ ((list : TableList)
    × (t : Table)
    × (s ≡ spot.TooMany list)
    × Contains (tables_in (list_key list) items) t
    × (row.line ≡ t.line))
    ⊎ ((n : ℕ)
    × (p : KeyValue)
    × (s ≡ spot.TooManyDestinations n)
    × Contains items (States p)
    × (row.line ≡ p.line))
    ⊎ ((i : Item)
    × (s ≡ spot.TooManyStretches)
    × Contains (stretches_in items) i
    × (row.line ≡ line_of i))
    ⊎ ((c : Course)
    × (i : Item)
    × Contains (placed at_front items) (c, i)
    × Shows c i s
    × (row.line ≡ line_of i))

-- a text of one plain line, entry = "a", and its document, of which that is so
abbrev pub a_text : List PlainLine
a_text = Setting (codes "entry") (Quoted (codes "\"") (codes "a")) ∷ []

abbrev pub a_document : Members
a_document = member (codes "entry") (string (codes "a")) no_members
