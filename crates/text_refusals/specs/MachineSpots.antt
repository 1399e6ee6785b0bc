-- Which spots of a machine file's document each table and value of its text shows, and what is said of a
-- table where one has the fault.
use Rattle.std.specs.Prelude.{◌==◌, ◌++◌, ℕ, List, [], ◌∷◌, codes, length}
use Rattle.std.specs.Prelude.{Option, Some, None, if◌then◌else◌}
use Rattle.std.specs.Str.{bytes_eq}
use Rattle.machine_file.specs.MachinePlaces.{list_key, number_key, shape_in, table_key}
use Rattle.machine_file.specs.declared.spots.EntryNumber.{EntryNumber}
use Rattle.machine_file.specs.declared.spots.EntryNumber.TheVariants.{Logical, Physical, Level, Step, Address}
use Rattle.machine_file.specs.declared.spots.MachineList.{MachineList}
use Rattle.machine_file.specs.declared.spots.MachineList.TheVariants.{Pages, Events, Words}
use Rattle.machine_file.specs.declared.spots.MachineSpot.{MachineSpot}
use Rattle.machine_file.specs.declared.spots.MachineSpot.TheVariants.{FlagTwice, Inner, Listed, NoInner}
use Rattle.machine_file.specs.declared.spots.MachineSpot.TheVariants.{NoList, NoTable, Own, Second}
use Rattle.machine_file.specs.declared.spots.MachineSpot.TheVariants.{Unmappable}
use Rattle.machine_file.specs.declared.spots.MachineTable.{MachineTable}
use Rattle.machine_file.specs.declared.spots.MachineTable.TheVariants.{Registers, Ioc, Vidc}
use Rattle.machine_file.specs.declared.spots.Part.{Part}
use Rattle.machine_file.specs.declared.spots.Part.TheVariants.{Missing, Unknown, Value}
use Rattle.text_refusals.specs.Courses.{inner_key, key_head}
use Rattle.text_refusals.specs.FaultyItems.{lent}
use Rattle.text_refusals.specs.FileCourses.{begun, entry_list, named_list, value_list}
use Rattle.text_refusals.specs.Outline.{KeyValue, Table, TableKeys}
use Rattle.text_refusals.specs.declared.file_course.FileCourse.{FileCourse}
use Rattle.text_refusals.specs.declared.file_course.FileList.{FileList}
use Rattle.text_refusals.specs.declared.file_course.FileList.TheVariants.{Tables}

-- the keys of a machine file whose values are tables
abbrev pub machine_tables : TableKeys
machine_tables =
    record {
      lists = list_key Pages ∷ list_key Events ∷ list_key Words ∷ [];
      tables = table_key Registers ∷ table_key Ioc ∷ table_key Vidc ∷ [];
    }

-- the table that a word names
abbrev pub named_table : List ℕ → Option MachineTable
named_table w =
    if bytes_eq w (table_key Registers) then Some Registers
    else (if bytes_eq w (table_key Ioc) then Some Ioc
    else (if bytes_eq w (table_key Vidc) then Some Vidc else None))

-- ## Keys

-- a key of a table: that the table may not have it, its value, and the rest
abbrev pub key_spots : (Part → MachineSpot) → List ℕ → List MachineSpot → List MachineSpot
key_spots part_at key rest = part_at (Unknown (lent key)) ∷ (part_at (Value (lent key)) ∷ rest)

-- a key of the table, if it is one
abbrev pub inner_spots : MachineTable → List ℕ → List MachineSpot
inner_spots table key = if length key == 0 then [] else key_spots (Inner table) key []

abbrev pub no_list_spots : Option FileList → List MachineSpot
no_list_spots (Some (Tables list)) = NoList list ∷ []
no_list_spots _ = []

-- what the key of a table or a list shows beside itself
abbrev pub held_spots : Option MachineTable → List ℕ → List MachineSpot
held_spots (Some table) key = NoInner table ∷ inner_spots table (inner_key key)
held_spots None key = no_list_spots (named_list (key_head key))

-- what a key of the file shows beside itself
abbrev pub special_spots : List ℕ → List MachineSpot
special_spots key =
    if bytes_eq (key_head key) (codes "flags") then FlagTwice ∷ []
    else held_spots (named_table (key_head key)) key

-- a key of the file itself, with dots or without
abbrev pub own_spots : List ℕ → List MachineSpot
own_spots key = key_spots Own (key_head key) (special_spots key)

-- ## Entries of lists

-- the number that is at the key, in the tables of the list
abbrev pub named_number : MachineList → List ℕ → Option EntryNumber
named_number Pages w =
    if bytes_eq w (number_key Logical) then Some Logical
    else (if bytes_eq w (number_key Physical) then Some Physical
    else (if bytes_eq w (number_key Level) then Some Level else None))
named_number Events w = if bytes_eq w (number_key Step) then Some Step else None
named_number Words w = if bytes_eq w (number_key Address) then Some Address else None

abbrev pub number_spots : ℕ → Option EntryNumber → List MachineSpot
number_spots n None = []
number_spots n (Some number) = Unmappable number n ∷ Second number n ∷ []

-- a key of the entry
abbrev pub entry_spots : Option (FileList × ℕ) → List ℕ → List MachineSpot
entry_spots (Some (Tables list, n)) key =
    key_spots (Listed list n) key (number_spots n (named_number list key))
entry_spots _ key = []

-- keys that the entry of the list has not
abbrev pub missing_spots : MachineList → ℕ → List (List ℕ) → List MachineSpot
missing_spots list n [] = []
missing_spots list n (key ∷ keys) = Listed list n (Missing (lent key)) ∷ missing_spots list n keys

-- an entry that is no table
abbrev pub no_table_spots : FileCourse → Option FileList → List MachineSpot
no_table_spots c (Some (Tables list)) = NoTable list (begun (Tables list) c) ∷ []
no_table_spots c _ = []

-- ## What a value shows, and what a table

-- in a table of the file: a key of it, or of an entry
abbrev pub value_spots_in : Option MachineTable → FileCourse → List ℕ → List MachineSpot
value_spots_in (Some table) c key = inner_spots table key
value_spots_in None c key = entry_spots c.entry key

abbrev pub inner_value_spots : FileCourse → KeyValue → List MachineSpot
inner_value_spots c p = value_spots_in (named_table p.list) c (key_head p.key)

abbrev pub flat_value_spots : FileCourse → KeyValue → List MachineSpot
flat_value_spots c p = if length p.list == 0 then own_spots p.key else inner_value_spots c p

abbrev pub value_spots : FileCourse → KeyValue → List MachineSpot
value_spots c p = if p.depth == 0 then flat_value_spots c p else no_table_spots c (value_list p)

abbrev pub table_spots_by : FileCourse → Table → Option FileList → List MachineSpot
table_spots_by c t (Some (Tables list)) = missing_spots list (begun (Tables list) c) (shape_in list).keys
table_spots_by c t _ = own_spots t.name

-- a table is an entry of a list, or stands for a value of the file
abbrev pub table_spots : FileCourse → Table → List MachineSpot
table_spots c t = table_spots_by c t (entry_list t)

-- a key that the file has not
abbrev pub absent_spots : List (List ℕ) → List MachineSpot
absent_spots [] = []
absent_spots (key ∷ keys) = Own (Missing (lent key)) ∷ absent_spots keys

-- ## Words

-- that the table has no such key
abbrev pub no_key_words : MachineTable → List ℕ
no_key_words Registers = codes " is no register"
no_key_words Ioc = codes " is no key of ioc"
no_key_words Vidc = codes " is no key of vidc"

-- what is said of a table that shows the spot
abbrev pub table_words : MachineSpot → List ℕ
table_words (Own (Unknown k)) = codes " is no table of machine files"
table_words (Own (Value k)) = codes " may be no table"
table_words (Inner table (Unknown k)) = no_key_words table
table_words (Inner table (Value k)) = codes " may be no table"
table_words (NoInner table) = codes " has to be in single brackets"
table_words (NoList list) = codes " has to be in double brackets"
table_words (Listed list n (Missing k)) = codes " has no " ++ k.now
table_words _ = []

-- what is said of the file
abbrev pub absent_words : MachineSpot → List ℕ
absent_words (Own (Missing k)) = codes "the machine file has no " ++ k.now
absent_words _ = []
