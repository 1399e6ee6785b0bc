-- Which spots of a cycle profile's document each table and value of its text shows, and what is said where
-- one has the fault.
use Rattle.std.specs.Prelude.{◌==◌, ◌++◌, ◌+◌, ℕ, List, [], ◌∷◌, codes, length, nat_lt}
use Rattle.std.specs.Prelude.{Option, Some, None, if◌then◌else◌}
use Rattle.std.specs.Str.{bytes_eq}
use Rattle.machine_file.specs.declared.spots.Part.TheVariants.{Missing, Unknown, Value}
use Rattle.machine_file.specs.declared.spots.PriceList.{PriceList}
use Rattle.machine_file.specs.declared.spots.PriceList.TheVariants.{Rom, Io}
use Rattle.machine_file.specs.declared.spots.PriceOrder.{PriceOrder}
use Rattle.machine_file.specs.declared.spots.PriceOrder.TheVariants.{SByQuad, QuadByN, NByDevices}
use Rattle.machine_file.specs.declared.spots.PriceOrder.TheVariants.{RomByDevices, ControlByDevices}
use Rattle.machine_file.specs.declared.spots.ProfileSpot.{ProfileSpot}
use Rattle.machine_file.specs.declared.spots.ProfileSpot.TheVariants.{Disordered, Item as Listed, Own, Price}
use Rattle.text_refusals.specs.Courses.{key_head}
use Rattle.text_refusals.specs.FaultyItems.{lent}
use Rattle.text_refusals.specs.FileCourses.{begun, entry_list, value_list}
use Rattle.text_refusals.specs.Outline.{KeyValue, Table, TableKeys}
use Rattle.text_refusals.specs.declared.file_course.FileCourse.{FileCourse}
use Rattle.text_refusals.specs.declared.file_course.FileList.{FileList}
use Rattle.text_refusals.specs.declared.file_course.FileList.TheVariants.{Prices}

-- no value of a cycle profile is a table
abbrev pub profile_tables : TableKeys
profile_tables = record { lists = []; tables = [] }

-- ## Prices

-- the place of the price at the key, in the order of a profile's fields, but for those of lists
abbrev pub named_price : List ℕ → Option ℕ
named_price w =
    if bytes_eq w (codes "n") then Some 0
    else (if bytes_eq w (codes "s") then Some 1
    else (if bytes_eq w (codes "quad") then Some 2
    else (if bytes_eq w (codes "control") then Some 11
    else (if bytes_eq w (codes "unfitted") then Some 12
    else (if bytes_eq w (codes "internal") then Some 13
    else (if bytes_eq w (codes "burst") then Some 14 else None))))))

-- the place of the first price of the list
abbrev pub first_price : PriceList → ℕ
first_price Rom = 3
first_price Io = 7

-- the order in which the price at the key has to be the lesser
abbrev pub named_order : List ℕ → Option PriceOrder
named_order w =
    if bytes_eq w (codes "s") then Some SByQuad
    else (if bytes_eq w (codes "quad") then Some QuadByN
    else (if bytes_eq w (codes "n") then Some NByDevices
    else (if bytes_eq w (codes "rom") then Some RomByDevices
    else (if bytes_eq w (codes "control") then Some ControlByDevices else None))))

-- ## What a value shows, and what a table

abbrev pub price_spots : Option ℕ → List ProfileSpot
price_spots None = []
price_spots (Some i) = Price i ∷ []

abbrev pub order_spots : Option PriceOrder → List ProfileSpot
order_spots None = []
order_spots (Some order) = Disordered order ∷ []

-- a key of the file itself, with dots or without
abbrev pub own_spots : List ℕ → List ProfileSpot
own_spots key =
    Own (Unknown (lent (key_head key)))
    ∷ (Own (Value (lent (key_head key))) ∷ (price_spots (named_price key) ++ order_spots (named_order key)))

-- one of the four prices of a list
abbrev pub four_spots : PriceList → ℕ → List ProfileSpot
four_spots list n = if nat_lt n 4 then Price (first_price list + n) ∷ [] else []

-- an entry of a list
abbrev pub entry_spots : FileCourse → Option FileList → List ProfileSpot
entry_spots c (Some (Prices list)) =
    Listed list (begun (Prices list) c) ∷ four_spots list (begun (Prices list) c)
entry_spots c _ = []

abbrev pub own_value_spots : FileCourse → KeyValue → List ProfileSpot
own_value_spots c p = if p.depth == 0 then own_spots p.key else entry_spots c (value_list p)

abbrev pub value_spots : FileCourse → KeyValue → List ProfileSpot
value_spots c p = if length p.list == 0 then own_value_spots c p else []

-- a table stands for a value, or for an entry of a list
abbrev pub table_spots : FileCourse → Table → List ProfileSpot
table_spots c t =
    Own (Unknown (lent (key_head t.name)))
    ∷ (Own (Value (lent (key_head t.name))) ∷ entry_spots c (entry_list t))

-- a key that the file has not
abbrev pub absent_spots : List (List ℕ) → List ProfileSpot
absent_spots [] = []
absent_spots (key ∷ keys) = Own (Missing (lent key)) ∷ absent_spots keys

-- ## Words

abbrev pub order_words : PriceOrder → List ℕ
order_words SByQuad = codes " is more than quad"
order_words QuadByN = codes " is more than n"
order_words NByDevices = codes " is more than the dearest of io"
order_words RomByDevices = codes " has a price above the dearest of io"
order_words ControlByDevices = codes " is more than the dearest of io"

-- what is said of a value that shows the spot
abbrev pub value_words : ProfileSpot → List ℕ
value_words (Disordered order) = order_words order
value_words _ = []

-- of a table
abbrev pub table_words : ProfileSpot → List ℕ
table_words (Own (Unknown k)) = codes " is no key of cycle profiles"
table_words _ = codes " may be no table"

-- of the file
abbrev pub absent_words : ProfileSpot → List ℕ
absent_words (Own (Missing k)) = codes "the cycle profile has no " ++ k.now
absent_words _ = []
