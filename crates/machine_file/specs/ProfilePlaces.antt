-- Where in a cycle profile's document a fault is: each fault of `ProfileRules`, with the spot that has it.
use Rattle.std.specs.Prelude.{◌≡◌, ◌≢◌, ◌<◌, ◌⊎◌, ⊤, ℕ, true, false, List, codes, length, take, None, IsSome}
use Rattle.std.specs.Prelude.{IsSomeAnd, MatchOption, slice_index}
use Rattle.std.specs.List.{slice_get}
use Rattle.toml.specs.Data.{Data, Members, get_member}
use Rattle.bus_ticks.specs.Ranges.{IsPrice, device_number, rom_number}
use Rattle.toml_reading.specs.Documents.{is_one_of, items_at}
use Rattle.toml_reading.specs.Lowest.{AtKey}
use Rattle.machine_file.specs.ProfileFile.{profile_keys}
use Rattle.machine_file.specs.ProfileRules.{IsNoNumber, IsOtherNumber, StatesNumbers, list_keys, number_keys}
use Rattle.machine_file.specs.declared.profile_faults.ProfileFileFault.{ProfileFileFault}
use Rattle.machine_file.specs.declared.profile_faults.ProfileFileFault.TheVariants.{UnknownKey, WrongKind}
use Rattle.machine_file.specs.declared.profile_faults.ProfileFileFault.TheVariants.{OutOfRange}
use Rattle.machine_file.specs.declared.profile_faults.ProfileFileFault.TheVariants as fault
use Rattle.machine_file.specs.declared.spots.Part.{Part}
use Rattle.machine_file.specs.declared.spots.Part.TheVariants.{Unknown, Value, Missing}
use Rattle.machine_file.specs.declared.spots.PriceList.{PriceList}
use Rattle.machine_file.specs.declared.spots.PriceList.TheVariants.{Rom, Io}
use Rattle.machine_file.specs.declared.spots.PriceOrder.{PriceOrder}
use Rattle.machine_file.specs.declared.spots.PriceOrder.TheVariants.{SByQuad, QuadByN, NByDevices}
use Rattle.machine_file.specs.declared.spots.PriceOrder.TheVariants.{RomByDevices, ControlByDevices}
use Rattle.machine_file.specs.declared.spots.ProfileSpot.{ProfileSpot}
use Rattle.machine_file.specs.declared.spots.ProfileSpot.TheVariants as spot

abbrev pub price_key : PriceList → List ℕ
price_key Rom = codes "rom"
price_key Io = codes "io"

-- ## Keys

abbrev pub TakesNumber : List ℕ → Type 0
TakesNumber key = is_one_of number_keys key ≡ true

abbrev pub TakesFour : List ℕ → Type 0
TakesFour key = is_one_of list_keys key ≡ true

-- no number, or one that has not 32 bits
abbrev pub PriceFault : ProfileFileFault → Data → Type 0
PriceFault f d = (IsNoNumber d × (f ≡ WrongKind)) ⊎ (IsOtherNumber d × (f ≡ OutOfRange))

-- no list, or one of another length
abbrev pub IsNotFour : Data → Type 0
IsNotFour d = MatchOption (items_at d) ⊤ (λ ds. length ds ≢ 4)

abbrev pub ValueFault : (key : List ℕ) → ProfileFileFault → Data → Type 0
ValueFault key f d = (TakesNumber key × PriceFault f d) ⊎ (TakesFour key × IsNotFour d × (f ≡ WrongKind))

-- a key that the file may not have, the value at one that it may have, or one that it has not: it has to have
-- all
abbrev pub PartFault : Part → Members → ProfileFileFault → Type 0
PartFault (Unknown key) ms f =
    IsSome (get_member key.now ms) × (is_one_of profile_keys key.now ≡ false) × (f ≡ UnknownKey)
PartFault (Value key) ms f = AtKey key.now ms (ValueFault key.now f)
PartFault (Missing key) ms f =
    (TakesNumber key.now ⊎ TakesFour key.now) × (get_member key.now ms ≡ None) × (f ≡ WrongKind)

-- ## The fifteen prices

-- the price with the index is not in its range
abbrev pub IsNoPrice : ℕ → List ℕ → Type 0
IsNoPrice i numbers =
    IsSomeAnd (slice_get (take 14 numbers) i) (λ ticks. ¬ IsPrice ticks)
    ⊎ ((i ≡ 14) × (¬ (slice_index numbers 14 < 256)))

-- what has to be at most the other is dearer
abbrev pub IsDearer : PriceOrder → List ℕ → Type 0
IsDearer SByQuad numbers = slice_index numbers 2 < slice_index numbers 1
IsDearer QuadByN numbers = slice_index numbers 0 < slice_index numbers 2
IsDearer NByDevices numbers = device_number numbers < slice_index numbers 0
IsDearer RomByDevices numbers = device_number numbers < rom_number numbers
IsDearer ControlByDevices numbers = device_number numbers < slice_index numbers 11

-- the file states fifteen numbers, of which that holds
abbrev pub OfNumbers : Members → (List ℕ → Type 0) → Type 0
OfNumbers ms P = (numbers : List ℕ) × StatesNumbers ms numbers × P numbers

-- ## The file

-- the document has the fault at the spot
abbrev pub IsProfileFaultAt : Members → ProfileSpot → ProfileFileFault → Type 0
IsProfileFaultAt ms (spot.Own part) f = PartFault part ms f
IsProfileFaultAt ms (spot.Item list i) f =
    AtKey
    (price_key list)
    ms
    (λ d. IsSomeAnd (items_at d) (λ ds. IsSomeAnd (slice_get ds i) (PriceFault f)))
IsProfileFaultAt ms (spot.Price i) f = OfNumbers ms (IsNoPrice i) × (f ≡ OutOfRange)
IsProfileFaultAt ms (spot.Disordered order) f = OfNumbers ms (IsDearer order) × (f ≡ fault.Disordered)
