-- Which spots of the document of a file of facts each table and value of its text shows, and what is said
-- where one has the fault.
use Rattle.std.specs.Prelude.{◌==◌, ◌++◌, ℕ, List, [], ◌∷◌, codes, length, Option, Some, None}
use Rattle.std.specs.Prelude.{if◌then◌else◌}
use Rattle.std.specs.Str.{bytes_eq}
use Rattle.given_facts.specs.declared.spots.GivenSpot.{GivenSpot}
use Rattle.given_facts.specs.declared.spots.GivenSpot.TheVariants as spot
use Rattle.machine_file.specs.declared.spots.Part.TheVariants.{Missing, Unknown, Value}
use Rattle.text_refusals.specs.Courses.{key_head}
use Rattle.text_refusals.specs.FaultyItems.{lent}
use Rattle.text_refusals.specs.FileCourses.{begun, entry_list, named_list, value_list}
use Rattle.text_refusals.specs.Outline.{KeyValue, Table, TableKeys}
use Rattle.text_refusals.specs.declared.file_course.FileCourse.{FileCourse}
use Rattle.text_refusals.specs.declared.file_course.FileList.{FileList}
use Rattle.text_refusals.specs.declared.file_course.FileList.TheVariants.{Facts}

-- the key of a file of facts whose value is a list of tables
abbrev pub given_tables : TableKeys
given_tables = record { lists = codes "given" ∷ []; tables = [] }

-- ## Keys

abbrev pub no_list_spots : Option FileList → List GivenSpot
no_list_spots (Some Facts) = spot.NoList ∷ []
no_list_spots _ = []

-- a key of the file itself, with dots or without
abbrev pub own_spots : List ℕ → List GivenSpot
own_spots key = spot.Unknown (lent (key_head key)) ∷ no_list_spots (named_list (key_head key))

-- what a key of the fact shows beside itself
abbrev pub special_spots : ℕ → List ℕ → List GivenSpot
special_spots n key =
    if bytes_eq key (codes "register") then spot.Second n ∷ []
    else (if bytes_eq key (codes "from") then spot.Disordered n ∷ [] else [])

-- a key of the fact that began last
abbrev pub fact_spots : Option (FileList × ℕ) → List ℕ → List GivenSpot
fact_spots (Some (Facts, n)) key =
    spot.Fact n (Unknown (lent key)) ∷ (spot.Fact n (Value (lent key)) ∷ special_spots n key)
fact_spots _ key = []

-- the keys that the fact may lack
abbrev pub missing_spots : ℕ → List (List ℕ) → List GivenSpot
missing_spots n [] = []
missing_spots n (key ∷ keys) = spot.Fact n (Missing (lent key)) ∷ missing_spots n keys

abbrev pub all_keys : List (List ℕ)
all_keys = codes "register" ∷ codes "value" ∷ codes "from" ∷ codes "to" ∷ []

-- ## What a value shows, and what a table

-- an entry that is no table
abbrev pub no_table_spots : FileCourse → Option FileList → List GivenSpot
no_table_spots c (Some Facts) = spot.NoTable (begun Facts c) ∷ []
no_table_spots c _ = []

abbrev pub flat_value_spots : FileCourse → KeyValue → List GivenSpot
flat_value_spots c p = if length p.list == 0 then own_spots p.key else fact_spots c.entry (key_head p.key)

abbrev pub value_spots : FileCourse → KeyValue → List GivenSpot
value_spots c p = if p.depth == 0 then flat_value_spots c p else no_table_spots c (value_list p)

abbrev pub table_spots_by : FileCourse → Table → Option FileList → List GivenSpot
table_spots_by c t (Some Facts) = missing_spots (begun Facts c) all_keys
table_spots_by c t _ = own_spots t.name

-- a table is a fact, or stands for a value of the file
abbrev pub table_spots : FileCourse → Table → List GivenSpot
table_spots c t = table_spots_by c t (entry_list t)

-- ## Words

-- what is said of a value that shows the spot: but for this one its line says enough
abbrev pub value_words : GivenSpot → List ℕ
value_words (spot.Disordered n) = codes " is above to"
value_words _ = []

-- of a table
abbrev pub table_words : GivenSpot → List ℕ
table_words (spot.Unknown k) = codes " is no table of facts"
table_words spot.NoList = codes " has to be in double brackets"
table_words (spot.Fact n (Missing k)) = codes " has no " ++ k.now
table_words _ = []
