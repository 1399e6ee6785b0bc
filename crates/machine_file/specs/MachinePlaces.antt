-- Where in a machine file's document a fault is: each fault of `MachineFaultRules`, with the spot that has
-- it.
use Rattle.std.specs.Prelude.{◌≡◌, ◌≤◌, ◌⊎◌, ℕ, Bool, true, false, List, codes, take, Any, None, IsSome}
use Rattle.std.specs.Prelude.{IsSomeAnd}
use Rattle.std.specs.List.{slice_get}
use Rattle.toml.specs.Data.{Data, Members, as_table, get_member}
use Rattle.toml_reading.specs.Documents.{is_one_of, items_at}
use Rattle.toml_reading.specs.Lowest.{AtKey, entries_at, number_of_entry}
use Rattle.machine_file.specs.MachineFaultRules.{IsLetterTwice, IsNoTable, IsOtherKind, IsOtherNumber, OfLimit}
use Rattle.machine_file.specs.MachineFaultRules.{Shape, event_shape, file_shape, ioc_shape, map_shape}
use Rattle.machine_file.specs.MachineFaultRules.{put_word_shape, register_shape, vidc_shape}
use Rattle.machine_file.specs.declared.machine_faults.MachineFileFault.{MachineFileFault}
use Rattle.machine_file.specs.declared.machine_faults.MachineFileFault.TheVariants.{UnknownKey, WrongKind}
use Rattle.machine_file.specs.declared.machine_faults.MachineFileFault.TheVariants.{OutOfRange, Twice}
use Rattle.machine_file.specs.declared.rows.Takes.{Takes}
use Rattle.machine_file.specs.declared.spots.EntryNumber.{EntryNumber}
use Rattle.machine_file.specs.declared.spots.EntryNumber.TheVariants.{Logical, Physical, Level, Step, Address}
use Rattle.machine_file.specs.declared.spots.MachineList.{MachineList}
use Rattle.machine_file.specs.declared.spots.MachineList.TheVariants.{Pages, Events, Words}
use Rattle.machine_file.specs.declared.spots.MachineTable.{MachineTable}
use Rattle.machine_file.specs.declared.spots.MachineTable.TheVariants.{Registers, Ioc, Vidc}
use Rattle.machine_file.specs.declared.spots.MachineSpot.{MachineSpot}
use Rattle.machine_file.specs.declared.spots.MachineSpot.TheVariants as spot
use Rattle.machine_file.specs.declared.spots.Part.{Part}
use Rattle.machine_file.specs.declared.spots.Part.TheVariants.{Unknown, Value, Missing}

-- ## Tables

abbrev pub table_key : MachineTable → List ℕ
table_key Registers = codes "registers"
table_key Ioc = codes "ioc"
table_key Vidc = codes "vidc"

abbrev pub shape_of : MachineTable → Shape
shape_of Registers = register_shape
shape_of Ioc = ioc_shape
shape_of Vidc = vidc_shape

-- ## Lists

abbrev pub list_key : MachineList → List ℕ
list_key Pages = codes "map"
list_key Events = codes "event"
list_key Words = codes "word"

-- the shape of the tables of the list
abbrev pub shape_in : MachineList → Shape
shape_in Pages = map_shape
shape_in Events = event_shape
shape_in Words = put_word_shape

abbrev pub number_list : EntryNumber → MachineList
number_list Logical = Pages
number_list Physical = Pages
number_list Level = Pages
number_list Step = Events
number_list Address = Words

abbrev pub number_key : EntryNumber → List ℕ
number_key Logical = codes "logical"
number_key Physical = codes "physical"
number_key Level = codes "level"
number_key Step = codes "step"
number_key Address = codes "at"

-- pages may have the level of others
abbrev pub differs : EntryNumber → Bool
differs Level = false
differs _ = true

-- that holds of the entry of the list with the index, from 0
abbrev pub AtEntry : MachineList → ℕ → Members → (Data → Type 0) → Type 0
AtEntry list n ms P = IsSomeAnd (slice_get (entries_at (list_key list) ms) n) P

-- that holds of the number, in the entry of its list with the index
abbrev pub AtNumber : EntryNumber → ℕ → Members → (ℕ → Type 0) → Type 0
AtNumber number n ms P =
    AtEntry (number_list number) n ms (λ d. IsSomeAnd (number_of_entry (number_key number) d) P)

-- one of the first entries of its list has that number
abbrev pub IsAmongFirst : EntryNumber → ℕ → Members → ℕ → Type 0
IsAmongFirst number n ms a =
    Any
    (λ d. IsSomeAnd (number_of_entry (number_key number) d) (λ b. b ≡ a))
    (take n (entries_at (list_key (number_list number)) ms))

-- ## The keys of a table

-- a value of the wrong kind, or a number that its key does not take
abbrev pub KindFault : MachineFileFault → Takes → Data → Type 0
KindFault fault takes d =
    (IsOtherKind takes d × (fault ≡ WrongKind)) ⊎ (IsOtherNumber takes d × (fault ≡ OutOfRange))

-- a key that the table may not have, the value at one that it may have, or one that it has to have and has not
abbrev pub PartFault : Shape → Part → Members → MachineFileFault → Type 0
PartFault shape (Unknown key) ms fault =
    IsSome (get_member key.now ms) × (is_one_of shape.keys key.now ≡ false) × (fault ≡ UnknownKey)
PartFault shape (Value key) ms fault =
    Any (λ row. (row.key ≡ key.now) × AtKey row.key ms (KindFault fault row.takes)) shape.rows
PartFault shape (Missing key) ms fault =
    Any (λ row. (row.key ≡ key.now) × (row.required ≡ true) × (get_member row.key ms ≡ None)) shape.rows
    × (fault ≡ WrongKind)

-- ## The file

-- the document has the fault at the spot
abbrev pub IsMachineFaultAt : Members → MachineSpot → MachineFileFault → Type 0
IsMachineFaultAt ms (spot.Own part) fault = PartFault file_shape part ms fault
IsMachineFaultAt ms spot.FlagTwice fault = IsLetterTwice ms × (fault ≡ Twice)
IsMachineFaultAt ms (spot.NoInner table) fault = AtKey (table_key table) ms IsNoTable × (fault ≡ WrongKind)
IsMachineFaultAt ms (spot.Inner table part) fault =
    AtKey (table_key table) ms (λ d. IsSomeAnd (as_table d) (λ t. PartFault (shape_of table) part t fault))
IsMachineFaultAt ms (spot.NoList list) fault =
    AtKey (list_key list) ms (λ d. items_at d ≡ None) × (fault ≡ WrongKind)
IsMachineFaultAt ms (spot.NoTable list n) fault = AtEntry list n ms IsNoTable × (fault ≡ WrongKind)
IsMachineFaultAt ms (spot.Listed list n part) fault =
    AtEntry list n ms (λ d. IsSomeAnd (as_table d) (λ t. PartFault (shape_in list) part t fault))
IsMachineFaultAt ms (spot.Unmappable number n) fault =
    OfLimit number ms (λ limit. AtNumber number n ms (λ a. limit ≤ a)) × (fault ≡ OutOfRange)
IsMachineFaultAt ms (spot.Second number n) fault =
    (differs number ≡ true) × AtNumber number n ms (IsAmongFirst number n ms) × (fault ≡ Twice)
