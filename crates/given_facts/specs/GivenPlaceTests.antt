-- The tests of the spots of a file of facts by what is read there, which clauses of private calls speak of.
use Rattle.std.specs.Prelude.{◌≡◌, ◌&&◌, ◌==◌, not, ◌-◌, ◌^◌, ℕ, Bool, true, false, List, codes, map, nat_lt}
use Rattle.std.specs.Prelude.{Option, Some, None, is_none, is_some, if◌then◌else◌}
use Rattle.std.specs.List.{slice_get}
use Rattle.std.specs.Option.{option_and_then}
use Rattle.std.specs.Result.{result_ok}
use Rattle.std.specs.Str.{bytes_eq}
use Rattle.toml.specs.Data.{Data, Members, as_integer, as_str, as_table, get_member}
use Rattle.machine_file.specs.MachinePlaceTests.{holds_of, is_outside, is_set, repeats}
use Rattle.machine_file.specs.declared.spots.Part.{Part}
use Rattle.machine_file.specs.declared.spots.Part.TheVariants.{Unknown, Value, Missing}
use Rattle.toml_reading.specs.Documents.{is_one_of, items_at}
use Rattle.toml_reading.specs.Readings.{pair}
use Rattle.given_facts.specs.GivenFaults.{given_faults, number_of}
use Rattle.given_facts.specs.GivenFile.{fact_keys, file_keys, has_key, named_register, word_in}
use Rattle.given_facts.specs.GivenPlaces.{entries, number_in}
use Rattle.given_facts.specs.declared.faults.GivenFault.{GivenFault}
use Rattle.given_facts.specs.declared.faults.GivenFault.TheVariants.{UnknownKey, WrongKind, OutOfRange, Twice}
use Rattle.given_facts.specs.declared.spots.GivenSpot.{GivenSpot}
use Rattle.given_facts.specs.declared.spots.GivenSpot.TheVariants as spot

abbrev pub is_same : GivenFault → GivenFault → Bool
is_same found fault = number_of found == number_of fault

-- ## Keys

abbrev pub has_unknown : (keys : List (List ℕ)) → (key : List ℕ) → Members → Bool
has_unknown keys key ms = has_key key ms && not (is_one_of keys key)

abbrev pub names_none : Data → Bool
names_none d = is_none (option_and_then named_register (as_str d))

abbrev pub is_no_word : Data → Bool
is_no_word d = holds_of (is_outside (2 ^ 32 - 1)) (as_integer d)

abbrev pub number_gives : GivenFault → Data → Bool
number_gives WrongKind d = is_none (as_integer d)
number_gives OutOfRange d = is_no_word d
number_gives _ d = false

abbrev pub value_gives : (key : List ℕ) → GivenFault → Data → Bool
value_gives key fault d =
    if bytes_eq key (codes "register") then is_same WrongKind fault && names_none d
    else number_gives fault d

abbrev pub takes : Members → (key : List ℕ) → Bool
takes ms key = is_one_of (fact_keys ms) key

abbrev pub part_gives : Part → Members → GivenFault → Bool
part_gives (Unknown key) ms fault = is_same UnknownKey fault && has_unknown (fact_keys ms) key.now ms
part_gives (Value key) ms fault =
    takes ms key.now && holds_of (value_gives key.now fault) (get_member key.now ms)
part_gives (Missing key) ms fault =
    is_same WrongKind fault && (takes ms key.now && is_none (get_member key.now ms))

abbrev pub is_disordered : Members → Bool
is_disordered ms =
    holds_of
    (λ ends. nat_lt ends.1 ends.0)
    (result_ok (pair given_faults (word_in (codes "from") ms) (word_in (codes "to") ms)))

-- ## Entries

abbrev pub entry_at : ℕ → Members → Option Data
entry_at n ms = slice_get (entries ms) n

abbrev pub fact_at : ℕ → Members → Option Members
fact_at n ms = option_and_then as_table (entry_at n ms)

abbrev pub is_no_list : Option Data → Bool
is_no_list o = holds_of (λ d. is_none (items_at d)) o

abbrev pub is_no_table : Option Data → Bool
is_no_table o = holds_of (λ d. is_none (as_table d)) o

-- of each entry whether an earlier one is on its register
abbrev pub register_repeats : Members → List Bool
register_repeats ms = repeats (map number_in (entries ms))

-- ## Spots

abbrev pub found : Members → GivenSpot → GivenFault → Bool
found ms (spot.Unknown key) fault = is_same UnknownKey fault && has_unknown file_keys key.now ms
found ms spot.NoList fault = is_same WrongKind fault && is_no_list (get_member (codes "given") ms)
found ms (spot.NoTable n) fault = is_same WrongKind fault && is_no_table (entry_at n ms)
found ms (spot.Fact n part) fault = holds_of (λ t. part_gives part t fault) (fact_at n ms)
found ms (spot.Disordered n) fault = is_same OutOfRange fault && holds_of is_disordered (fact_at n ms)
found ms (spot.Second n) fault = is_same Twice fault && is_set (register_repeats ms) n

-- of each entry whether an earlier one is on its register, as it is stored
abbrev pub IsStored : Members → List Bool → Type 0
IsStored ms tests = tests ≡ register_repeats ms
