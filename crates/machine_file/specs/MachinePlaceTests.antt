-- The tests of a machine file's spots by what is read there, which clauses of private calls speak of.
use Rattle.std.specs.Prelude.{◌≡◌, ◌&&◌, ◌==◌, not, ℕ, ℤ, pos, negsuc, Bool, true, false, List, [], ◌∷◌, ◌++◌}
use Rattle.std.specs.Prelude.{◌-◌, ◌^◌, codes, map, nat_le, nat_lt, Option, Some, None, Ok, Err, is_none}
use Rattle.std.specs.Prelude.{is_some, unwrap_or}
use Rattle.std.specs.Borrow.{Bor}
use Rattle.std.specs.BTreeSet.{BTreeSet, contains}
use Rattle.std.specs.List.{list_all, list_any, slice_get}
use Rattle.std.specs.Option.{option_and_then}
use Rattle.std.specs.Ordering.{nat_cmp}
use Rattle.std.specs.Result.{is_err}
use Rattle.std.specs.Str.{bytes_eq}
use Rattle.toml.specs.Data.{Data, Members, as_integer, as_str, as_table, get_member}
use Rattle.ioc.specs.LineNames.{line_named}
use Rattle.memc.specs.Memory.{shift_of_size}
use Rattle.memc.specs.declared.pages.TheConstants.{PHYSICAL_PAGES}
use Rattle.memc.specs.declared.spots.PageSize.{PageSize}
use Rattle.toml_reading.specs.Documents.{in_space, is_one_of, items_at}
use Rattle.toml_reading.specs.Lowest.{entries_at, natural, number_of_entry}
use Rattle.machine_file.specs.MachineFaultRules.{Row, Shape, Word, file_shape, may_have}
use Rattle.machine_file.specs.MachineFaults.{machine_faults, number_of}
use Rattle.machine_file.specs.MachineFile.{Read, is_letter, is_single, put_address_of, requests_of, size_in}
use Rattle.machine_file.specs.MachineFile.{size_of}
use Rattle.machine_file.specs.MachinePlaces.{differs, list_key, number_key, number_list, shape_in, shape_of}
use Rattle.machine_file.specs.MachinePlaces.{table_key}
use Rattle.machine_file.specs.Names.{named_mode}
use Rattle.machine_file.specs.declared.machine_faults.MachineFileFault.{MachineFileFault}
use Rattle.machine_file.specs.declared.machine_faults.MachineFileFault.TheVariants.{UnknownKey, WrongKind}
use Rattle.machine_file.specs.declared.machine_faults.MachineFileFault.TheVariants.{OutOfRange, Twice}
use Rattle.machine_file.specs.declared.rows.Takes.{Takes}
use Rattle.machine_file.specs.declared.rows.Takes.TheVariants.{UpTo, Address, PutAddress, Size, ModeName}
use Rattle.machine_file.specs.declared.rows.Takes.TheVariants.{FlagLetters, LatchedBits, LineNames}
use Rattle.machine_file.specs.declared.spots.EntryNumber.{EntryNumber}
use Rattle.machine_file.specs.declared.spots.EntryNumber.TheVariants as number
use Rattle.machine_file.specs.declared.spots.MachineList.{MachineList}
use Rattle.machine_file.specs.declared.spots.MachineTable.{MachineTable}
use Rattle.machine_file.specs.declared.spots.MachineSpot.{MachineSpot}
use Rattle.machine_file.specs.declared.spots.MachineSpot.TheVariants as spot
use Rattle.machine_file.specs.declared.spots.Part.{Part}
use Rattle.machine_file.specs.declared.spots.Part.TheVariants.{Unknown, Value, Missing}

abbrev pub is_same : MachineFileFault → MachineFileFault → Bool
is_same found fault = number_of found == number_of fault

-- the test, of what is there
abbrev pub holds_of : {A : Type 0} → (A → Bool) → Option A → Bool
holds_of test None = false
holds_of test (Some a) = test a

-- ## Rows

-- a row as the code has it
abbrev pub row_of : Bor (List ℕ) × Takes × Bool → Row
row_of r = record { key = r.0.now; takes = r.1; required = r.2 }

-- that of a key that takes a word
abbrev pub word_row : List ℕ → Row
word_row key = may_have key Word

-- ## Values

abbrev pub names_no_mode : Data → Bool
names_no_mode d = is_none (option_and_then named_mode (as_str d))

abbrev pub are_other_letters : Option (List ℕ) → Bool
are_other_letters None = true
are_other_letters (Some text) = not (list_all is_letter text)

abbrev pub has_other_letters : Data → Bool
has_other_letters d = are_other_letters (as_str d)

abbrev pub names_no_line : Data → Bool
names_no_line d = is_none (option_and_then line_named (as_str d))

abbrev pub are_no_lines : Option (List Data) → Bool
are_no_lines None = true
are_no_lines (Some ds) = list_any names_no_line ds

abbrev pub name_no_lines : Data → Bool
name_no_lines d = are_no_lines (items_at d)

abbrev pub is_other_kind : Takes → Data → Bool
is_other_kind (UpTo limit) d = is_none (as_integer d)
is_other_kind Address d = is_none (as_integer d)
is_other_kind PutAddress d = is_none (as_integer d)
is_other_kind Size d = is_none (as_integer d)
is_other_kind LatchedBits d = is_none (as_integer d)
is_other_kind ModeName d = names_no_mode d
is_other_kind FlagLetters d = has_other_letters d
is_other_kind LineNames d = name_no_lines d

abbrev pub is_outside : ℕ → ℤ → Bool
is_outside limit (pos n) = nat_lt limit n
is_outside limit (negsuc n) = true

abbrev pub is_other : Takes → ℤ → Bool
is_other (UpTo limit) z = is_outside limit z
is_other Address z = is_err (in_space machine_faults z)
is_other PutAddress z = is_err (put_address_of z)
is_other Size z = is_err (size_of z)
is_other LatchedBits z = is_err (requests_of z)
is_other ModeName z = false
is_other FlagLetters z = false
is_other LineNames z = false

abbrev pub is_other_number : Takes → Data → Bool
is_other_number takes d = holds_of (is_other takes) (as_integer d)

abbrev pub kind_gives : Takes → MachineFileFault → Data → Bool
kind_gives takes WrongKind d = is_other_kind takes d
kind_gives takes OutOfRange d = is_other_number takes d
kind_gives takes _ d = false

-- ## Keys

abbrev pub value_gives : (key : List ℕ) → Takes → Members → MachineFileFault → Bool
value_gives key takes ms fault = holds_of (kind_gives takes fault) (get_member key ms)

abbrev pub has_unknown : (keys : List (List ℕ)) → (key : List ℕ) → Members → Bool
has_unknown keys key ms = is_some (get_member key ms) && not (is_one_of keys key)

abbrev pub values_give : List Row → (key : List ℕ) → Members → MachineFileFault → Bool
values_give rows key ms fault =
    list_any (λ row. bytes_eq row.key key && value_gives row.key row.takes ms fault) rows

abbrev pub misses_one : List Row → (key : List ℕ) → Members → Bool
misses_one rows key ms =
    list_any (λ row. bytes_eq row.key key && (row.required && not (is_some (get_member row.key ms)))) rows

abbrev pub part_gives : Shape → Part → Members → MachineFileFault → Bool
part_gives shape (Unknown key) ms fault = is_same UnknownKey fault && has_unknown shape.keys key.now ms
part_gives shape (Value key) ms fault = values_give shape.rows key.now ms fault
part_gives shape (Missing key) ms fault = is_same WrongKind fault && misses_one shape.rows key.now ms

-- ## Entries

abbrev pub entry_at : MachineList → ℕ → Members → Option Data
entry_at list n ms = slice_get (entries_at (list_key list) ms) n

abbrev pub table_at : MachineList → ℕ → Members → Option Members
table_at list n ms = option_and_then as_table (entry_at list n ms)

abbrev pub is_no_list : Option Data → Bool
is_no_list None = false
is_no_list (Some d) = is_none (items_at d)

abbrev pub is_no_table : Option Data → Bool
is_no_table None = false
is_no_table (Some d) = is_none (as_table d)

abbrev pub natural_at : Data → Option ℕ
natural_at d = option_and_then natural (as_integer d)

abbrev pub natural_in : (key : List ℕ) → Members → Option ℕ
natural_in key ms = option_and_then natural (option_and_then as_integer (get_member key ms))

abbrev pub number_at : EntryNumber → ℕ → Members → Option ℕ
number_at number n ms =
    option_and_then (number_of_entry (number_key number)) (entry_at (number_list number) n ms)

-- ## Numbers that were there

abbrev pub is_number : ℕ → Option ℕ → Bool
is_number a None = false
is_number a (Some b) = b == a

-- one of the numbers is that one
abbrev pub is_among : List (Option ℕ) → ℕ → Bool
is_among ns a = list_any (is_number a) ns

-- the number, if there is one, is one of those before
abbrev pub was_there : (before : List (Option ℕ)) → Option ℕ → Bool
was_there before None = false
was_there before (Some a) = is_among before a

-- of each number whether it is one of those before it
unfoldable pub repeats_after : (before ns : List (Option ℕ)) → List Bool
repeats_after before [] = []
repeats_after before (n ∷ ns) = was_there before n ∷ repeats_after (before ++ n ∷ []) ns

abbrev pub repeats : List (Option ℕ) → List Bool
repeats ns = repeats_after [] ns

-- the test at the index, false past the end
abbrev pub is_set : List Bool → ℕ → Bool
is_set tests n = unwrap_or (slice_get tests n) false

abbrev pub number_repeats : EntryNumber → Members → List Bool
number_repeats number ms =
    repeats (map (number_of_entry (number_key number)) (entries_at (list_key (number_list number)) ms))

-- the numbers before
pub record AreSeen (before : List (Option ℕ)) (seen : BTreeSet ℕ) : Type 0 where
  pub same : (a : ℕ) → contains nat_cmp seen a ≡ is_among before a

-- ## Spots

abbrev pub is_twice_text : Option (List ℕ) → Bool
is_twice_text None = false
is_twice_text (Some text) = not (is_single text)

abbrev pub has_letter_twice : Option Data → Bool
has_letter_twice o = is_twice_text (option_and_then as_str o)

abbrev pub inner_table : MachineTable → Members → Option Members
inner_table table ms = option_and_then as_table (get_member (table_key table) ms)

abbrev pub logical_limit : Read PageSize → Option ℕ
logical_limit (Ok size) = Some (2 ^ (25 - shift_of_size size))
logical_limit (Err g) = None

abbrev pub limit_of : EntryNumber → Members → Option ℕ
limit_of number.Logical ms = logical_limit (size_in ms)
limit_of number.Physical ms = Some PHYSICAL_PAGES
limit_of number.Level ms = Some 4
limit_of number.Step ms = None
limit_of number.Address ms = None

-- both are there, and the number is not below the limit
abbrev pub is_past : (limit number : Option ℕ) → Bool
is_past o p = holds_of (λ limit. holds_of (nat_le limit) p) o

abbrev pub is_unmappable : EntryNumber → ℕ → Members → Bool
is_unmappable number n ms = is_past (limit_of number ms) (number_at number n ms)

abbrev pub is_second : EntryNumber → ℕ → Members → Bool
is_second number n ms = differs number && is_set (number_repeats number ms) n

abbrev pub found : Members → MachineSpot → MachineFileFault → Bool
found ms (spot.Own part) fault = part_gives file_shape part ms fault
found ms spot.FlagTwice fault = is_same Twice fault && has_letter_twice (get_member (codes "flags") ms)
found ms (spot.NoInner table) fault =
    is_same WrongKind fault && is_no_table (get_member (table_key table) ms)
found ms (spot.Inner table part) fault =
    holds_of (λ t. part_gives (shape_of table) part t fault) (inner_table table ms)
found ms (spot.NoList list) fault = is_same WrongKind fault && is_no_list (get_member (list_key list) ms)
found ms (spot.NoTable list n) fault = is_same WrongKind fault && is_no_table (entry_at list n ms)
found ms (spot.Listed list n part) fault =
    holds_of (λ t. part_gives (shape_in list) part t fault) (table_at list n ms)
found ms (spot.Unmappable number n) fault = is_same OutOfRange fault && is_unmappable number n ms
found ms (spot.Second number n) fault = is_same Twice fault && is_second number n ms

-- ## As it is stored

-- of the entries whether an earlier one has the same number
pub record IsStored (ms : Members) (logical physical steps addresses : List Bool) : Type 0 where
  pub logical_known : logical ≡ number_repeats number.Logical ms
  pub physical_known : physical ≡ number_repeats number.Physical ms
  pub steps_known : steps ≡ number_repeats number.Step ms
  pub addresses_known : addresses ≡ number_repeats number.Address ms
