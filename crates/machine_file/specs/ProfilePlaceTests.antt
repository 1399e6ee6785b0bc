-- The tests of a cycle profile's spots by what is read there, which clauses of private calls speak of.
use Rattle.std.specs.Prelude.{◌&&◌, ◌||◌, ◌==◌, not, ◌-◌, ◌^◌, ℕ, Bool, true, false, List, length, take}
use Rattle.std.specs.Prelude.{nat_le, nat_lt, Option, Some, None, is_none, is_some, option_map, slice_index}
use Rattle.std.specs.List.{slice_get}
use Rattle.std.specs.Option.{option_and_then}
use Rattle.std.specs.Result.{result_ok}
use Rattle.toml.specs.Data.{Data, Members, as_integer, get_member}
use Rattle.bus_ticks.specs.Ranges.{device_number, rom_number}
use Rattle.toml_reading.specs.Documents.{is_one_of, items_at}
use Rattle.machine_file.specs.MachinePlaceTests.{holds_of, is_outside}
use Rattle.machine_file.specs.ProfileFaults.{number_of}
use Rattle.machine_file.specs.ProfileFile.{joined, parts_in, profile_keys}
use Rattle.machine_file.specs.ProfilePlaces.{price_key}
use Rattle.machine_file.specs.ProfileRules.{list_keys, number_keys}
use Rattle.machine_file.specs.declared.profile_faults.ProfileFileFault.{ProfileFileFault}
use Rattle.machine_file.specs.declared.profile_faults.ProfileFileFault.TheVariants.{UnknownKey, WrongKind}
use Rattle.machine_file.specs.declared.profile_faults.ProfileFileFault.TheVariants.{OutOfRange, Disordered}
use Rattle.machine_file.specs.declared.spots.Part.{Part}
use Rattle.machine_file.specs.declared.spots.Part.TheVariants.{Unknown, Value, Missing}
use Rattle.machine_file.specs.declared.spots.PriceList.{PriceList}
use Rattle.machine_file.specs.declared.spots.PriceOrder.{PriceOrder}
use Rattle.machine_file.specs.declared.spots.PriceOrder.TheVariants.{SByQuad, QuadByN, NByDevices}
use Rattle.machine_file.specs.declared.spots.PriceOrder.TheVariants.{RomByDevices, ControlByDevices}
use Rattle.machine_file.specs.declared.spots.ProfileSpot.{ProfileSpot}
use Rattle.machine_file.specs.declared.spots.ProfileSpot.TheVariants as spot

abbrev pub is_same : ProfileFileFault → ProfileFileFault → Bool
is_same found f = number_of found == number_of f

-- ## Keys

abbrev pub is_no_number : Data → Bool
is_no_number d = is_none (as_integer d)

abbrev pub is_other_number : Data → Bool
is_other_number d = holds_of (is_outside (2 ^ 32 - 1)) (as_integer d)

abbrev pub price_gives : ProfileFileFault → Data → Bool
price_gives WrongKind d = is_no_number d
price_gives OutOfRange d = is_other_number d
price_gives _ d = false

abbrev pub are_not_four : Option (List Data) → Bool
are_not_four None = true
are_not_four (Some ds) = not (length ds == 4)

abbrev pub is_not_four : Data → Bool
is_not_four d = are_not_four (items_at d)

abbrev pub value_gives : (key : List ℕ) → ProfileFileFault → Data → Bool
value_gives key f d =
    (is_one_of number_keys key && price_gives f d)
    || (is_one_of list_keys key && (is_same WrongKind f && is_not_four d))

abbrev pub part_gives : Part → Members → ProfileFileFault → Bool
part_gives (Unknown key) ms f =
    is_same UnknownKey f && (is_some (get_member key.now ms) && not (is_one_of profile_keys key.now))
part_gives (Value key) ms f = holds_of (value_gives key.now f) (get_member key.now ms)
part_gives (Missing key) ms f =
    is_same WrongKind f
    && ((is_one_of number_keys key.now || is_one_of list_keys key.now) && is_none (get_member key.now ms))

-- ## Prices

abbrev pub item_at : PriceList → ℕ → Members → Option Data
item_at list i ms =
    option_and_then (λ ds. slice_get ds i) (option_and_then items_at (get_member (price_key list) ms))

-- the fifteen numbers that the file states
abbrev pub stated_numbers : Members → Option (List ℕ)
stated_numbers ms = option_map joined (result_ok (parts_in ms))

abbrev pub is_no_price : ℕ → Bool
is_no_price ticks = not (nat_le 1 ticks && nat_lt ticks 256)

abbrev pub is_out_of_range : ℕ → List ℕ → Bool
is_out_of_range i numbers =
    holds_of is_no_price (slice_get (take 14 numbers) i)
    || (i == 14 && not (nat_lt (slice_index numbers 14) 256))

abbrev pub is_dearer : PriceOrder → List ℕ → Bool
is_dearer SByQuad numbers = nat_lt (slice_index numbers 2) (slice_index numbers 1)
is_dearer QuadByN numbers = nat_lt (slice_index numbers 0) (slice_index numbers 2)
is_dearer NByDevices numbers = nat_lt (device_number numbers) (slice_index numbers 0)
is_dearer RomByDevices numbers = nat_lt (device_number numbers) (rom_number numbers)
is_dearer ControlByDevices numbers = nat_lt (device_number numbers) (slice_index numbers 11)

-- ## Spots

abbrev pub found : Members → ProfileSpot → ProfileFileFault → Bool
found ms (spot.Own part) f = part_gives part ms f
found ms (spot.Item list i) f = holds_of (price_gives f) (item_at list i ms)
found ms (spot.Price i) f = is_same OutOfRange f && holds_of (is_out_of_range i) (stated_numbers ms)
found ms (spot.Disordered order) f =
    is_same Disordered f && holds_of (is_dearer order) (stated_numbers ms)
