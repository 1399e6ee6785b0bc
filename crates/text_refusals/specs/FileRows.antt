-- What is named of a machine file, a cycle profile or a file of facts that is refused: first what the whole
-- lacks, and then the values and the tables that show where its document has the fault, in the order of the
-- text.
use Rattle.std.specs.Prelude.{◌≡◌, ◌⊎◌, ℕ, Bool, false, List, [], ◌∷◌, ◌++◌, Contains, map, if◌then◌else◌}
use Rattle.std.specs.Prelude.{Option, Some, None}
use Rattle.toml.specs.View.{table_view}
use Rattle.given_facts.specs.GivenPlaceTests as given_tests
use Rattle.given_facts.specs.declared.spots.GivenSpot.{GivenSpot}
use Rattle.given_facts.specs.declared.spots.GivenSpot.TheVariants as given
use Rattle.machine_file.specs.MachinePlaceTests as machine_tests
use Rattle.machine_file.specs.Names.{file_keys}
use Rattle.machine_file.specs.ProfileFile.{profile_keys}
use Rattle.machine_file.specs.ProfilePlaceTests as profile_tests
use Rattle.machine_file.specs.declared.spots.MachineSpot.{MachineSpot}
use Rattle.machine_file.specs.declared.spots.MachineSpot.TheVariants as machine
use Rattle.machine_file.specs.declared.spots.Part.{Part}
use Rattle.machine_file.specs.declared.spots.Part.TheVariants as part
use Rattle.machine_file.specs.declared.spots.ProfileSpot.{ProfileSpot}
use Rattle.machine_file.specs.declared.spots.ProfileSpot.TheVariants as profile
use Rattle.text_refusals.specs.FaultyItems.{lent}
use Rattle.text_refusals.specs.FileCourses.{after, at_front}
use Rattle.text_refusals.specs.GivenSpots as of_given
use Rattle.text_refusals.specs.MachineSpots as of_machine
use Rattle.text_refusals.specs.Outline.{Begins, Ends, Item, KeyValue, States, Table}
use Rattle.text_refusals.specs.ProfileSpots as of_profile
use Rattle.text_refusals.specs.Refused.{Row, name_text, row_if, value_row}
use Rattle.text_refusals.specs.declared.asked_file.AskedFile.{AskedFile}
use Rattle.text_refusals.specs.declared.asked_file.AskedFile.TheVariants as asked
use Rattle.text_refusals.specs.declared.asked_file.FileKind.{FileKind}
use Rattle.text_refusals.specs.declared.asked_file.FileKind.TheVariants as kind
use Rattle.text_refusals.specs.declared.asked_file.FileSpot.{FileSpot}
use Rattle.text_refusals.specs.declared.asked_file.FileSpot.TheVariants.{Given, Machine, Profile}
use Rattle.text_refusals.specs.declared.file_course.FileCourse.{FileCourse}

-- ## What shows a spot

-- the spots of a file's keys, each as missing; a file of facts may be empty
abbrev pub absent_spots : FileKind → List FileSpot
absent_spots kind.Machine = map Machine (of_machine.absent_spots file_keys)
absent_spots kind.Profile = map Profile (of_profile.absent_spots profile_keys)
absent_spots kind.Given = []

abbrev pub value_spots : FileKind → FileCourse → KeyValue → List FileSpot
value_spots kind.Machine c p = map Machine (of_machine.value_spots c p)
value_spots kind.Profile c p = map Profile (of_profile.value_spots c p)
value_spots kind.Given c p = map Given (of_given.value_spots c p)

abbrev pub table_spots : FileKind → FileCourse → Table → List FileSpot
table_spots kind.Machine c t = map Machine (of_machine.table_spots c t)
table_spots kind.Profile c t = map Profile (of_profile.table_spots c t)
table_spots kind.Given c t = map Given (of_given.table_spots c t)

-- the spots that an item shows
abbrev pub item_spots : FileKind → FileCourse → Item → List FileSpot
item_spots k c (Begins t) = table_spots k c t
item_spots k c (States p) = value_spots k c p
item_spots k c Ends = []

-- ## Rows

abbrev pub absent_words : FileSpot → List ℕ
absent_words (Machine s) = of_machine.absent_words s
absent_words (Profile s) = of_profile.absent_words s
absent_words (Given s) = []

abbrev pub table_words : FileSpot → List ℕ
table_words (Machine s) = of_machine.table_words s
table_words (Profile s) = of_profile.table_words s
table_words (Given s) = of_given.table_words s

-- of a machine file's value its line says enough
abbrev pub value_words : FileSpot → List ℕ
value_words (Machine s) = []
value_words (Profile s) = of_profile.value_words s
value_words (Given s) = of_given.value_words s

-- that the file lacks a key is said on the first line
abbrev pub absent_row : FileSpot → Row
absent_row s = record { line = 1; text = absent_words s }

-- what is said of a table that shows the spot
abbrev pub said_table : Table → FileSpot → Row
said_table t s = record { line = t.line; text = name_text t ++ table_words s }

-- of a table, or of the whole where there is none
abbrev pub said_of : Option Table → FileSpot → Row
said_of None s = absent_row s
said_of (Some t) s = said_table t s

-- of a value
abbrev pub said_value : KeyValue → FileSpot → Row
said_value p s = record { line = p.line; text = (value_row p).text ++ value_words s }

-- the spots of a machine file that have the fault
abbrev pub machine_has : (MachineSpot → Bool) → FileSpot → Bool
machine_has has (Machine s) = has s
machine_has has _ = false

-- those of a cycle profile
abbrev pub profile_has : (ProfileSpot → Bool) → FileSpot → Bool
profile_has has (Profile s) = has s
profile_has has _ = false

-- those of a file of facts
abbrev pub given_has : (GivenSpot → Bool) → FileSpot → Bool
given_has has (Given s) = has s
given_has has _ = false

module _ (has : FileSpot → Bool) where
  -- the row of each of the spots that has the fault
  abbrev pub each_row : (FileSpot → Row) → List FileSpot → List Row
  each_row row [] = []
  each_row row (s ∷ ss) = row_if (has s) (row s) ++ each_row row ss

  -- the row of the first of the spots that has it
  abbrev pub first_row : (FileSpot → Row) → List FileSpot → List Row
  first_row row [] = []
  first_row row (s ∷ ss) = if has s then row s ∷ [] else first_row row ss

  -- of a table all spots that have the fault, of a value the first
  abbrev pub item_rows : FileKind → FileCourse → Item → List Row
  item_rows k c (Begins t) = each_row (said_table t) (table_spots k c t)
  item_rows k c (States p) = first_row (said_value p) (value_spots k c p)
  item_rows k c Ends = []

  -- of items, from a position on
  unfoldable pub rows : FileKind → FileCourse → List Item → List Row
  rows k c [] = []
  rows k c (i ∷ items) = item_rows k c i ++ rows k (after c i) items

  -- of a file's items
  abbrev pub file_rows : FileKind → List Item → List Row
  file_rows k items = each_row absent_row (absent_spots k) ++ rows k at_front items

-- ## Which row is of which spot

-- the items, each with where it is
abbrev pub placed : FileCourse → List Item → List (FileCourse × Item)
placed c [] = []
placed c (i ∷ items) = (c, i) ∷ placed (after c i) items

-- what is said of an item that shows the spot
abbrev pub IsItemRow : Item → FileSpot → Row → Type 0
IsItemRow (Begins t) s row = row ≡ said_table t s
IsItemRow (States p) s row = row ≡ said_value p s
IsItemRow Ends s row = ⊥

-- the spot is a key that the file lacks, or an item shows it
abbrev pub IsShown : FileKind → List Item → FileSpot → Type 0
IsShown k items s =
    Contains (absent_spots k) s
    ⊎ ((c : FileCourse)
    × (i : Item)
    × Contains (placed at_front items) (c, i)
    × Contains (item_spots k c i) s)

-- the row says on the first line that the file lacks the spot's key, or is that of an item that shows the
-- spot
abbrev pub IsFileRowOf : FileKind → List Item → Row → FileSpot → Type 0
IsFileRowOf k items row s =
    (Contains (absent_spots k) s × (row ≡ absent_row s))
    ⊎ ((c : FileCourse)
    × (i : Item)
    × Contains (placed at_front items) (c, i)
    × Contains (item_spots k c i) s
    × IsItemRow i s row)

-- ## As the code has them

-- which kind of file it is
abbrev pub kind_of : AskedFile → FileKind
kind_of (asked.Machine document fault) = kind.Machine
kind_of (asked.Profile document fault) = kind.Profile
kind_of (asked.Given document fault) = kind.Given

-- the document has the fault that is looked for at the spot
abbrev pub has_in : AskedFile → FileSpot → Bool
has_in (asked.Machine d fault) = machine_has (λ s. machine_tests.found (table_view d.now.table.now) s fault)
has_in (asked.Profile d fault) = profile_has (λ s. profile_tests.found (table_view d.table.now) s fault)
has_in (asked.Given d fault) = given_has (λ s. given_tests.found (table_view d.now.table.now) s fault)

abbrev pub part_of : Part → Part
part_of (part.Unknown k) = part.Unknown (lent k.now)
part_of (part.Value k) = part.Value (lent k.now)
part_of (part.Missing k) = part.Missing (lent k.now)

abbrev pub machine_spot_of : MachineSpot → MachineSpot
machine_spot_of (machine.Own p) = machine.Own (part_of p)
machine_spot_of (machine.Inner table p) = machine.Inner table (part_of p)
machine_spot_of (machine.Listed list n p) = machine.Listed list n (part_of p)
machine_spot_of s = s

abbrev pub profile_spot_of : ProfileSpot → ProfileSpot
profile_spot_of (profile.Own p) = profile.Own (part_of p)
profile_spot_of s = s

abbrev pub given_spot_of : GivenSpot → GivenSpot
given_spot_of (given.Unknown k) = given.Unknown (lent k.now)
given_spot_of (given.Fact n p) = given.Fact n (part_of p)
given_spot_of s = s

abbrev pub spot_of : FileSpot → FileSpot
spot_of (Machine s) = Machine (machine_spot_of s)
spot_of (Profile s) = Profile (profile_spot_of s)
spot_of (Given s) = Given (given_spot_of s)
