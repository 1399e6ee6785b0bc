-- Where in the document of a file of facts a fault is.
use Rattle.std.specs.Prelude.{◌≡◌, ◌≢◌, ◌⊎◌, ◌<◌, ◌-◌, ◌^◌, ℕ, true, false, List, codes, take, Any}
use Rattle.std.specs.Prelude.{Option, None, IsSome, IsSomeAnd, option_map}
use Rattle.std.specs.List.{slice_get}
use Rattle.std.specs.Option.{option_and_then}
use Rattle.toml.specs.Data.{Data, Members, as_str, as_table, get_member}
use Rattle.arm2_decode.specs.Names.{register_number}
use Rattle.machine_file.specs.declared.spots.Part.{Part}
use Rattle.machine_file.specs.declared.spots.Part.TheVariants.{Unknown, Value, Missing}
use Rattle.toml_reading.specs.Documents.{is_one_of, items_at}
use Rattle.toml_reading.specs.Lowest.{AtKey, IsNumber, NameFault, NumberFault, entries_at}
use Rattle.given_facts.specs.GivenFaults.{given_faults}
use Rattle.given_facts.specs.GivenFile.{fact_keys, file_keys, named_register}
use Rattle.given_facts.specs.declared.faults.GivenFault.{GivenFault}
use Rattle.given_facts.specs.declared.faults.GivenFault.TheVariants.{UnknownKey, WrongKind, OutOfRange, Twice}
use Rattle.given_facts.specs.declared.spots.GivenSpot.{GivenSpot}
use Rattle.given_facts.specs.declared.spots.GivenSpot.TheVariants as spot

abbrev pub entries : Members → List Data
entries ms = entries_at (codes "given") ms

-- that holds of the entry with the index, from 0
abbrev pub AtEntry : ℕ → Members → (Data → Type 0) → Type 0
AtEntry n ms P = IsSomeAnd (slice_get (entries ms) n) P

-- of the table that it is
abbrev pub AtFact : ℕ → Members → (Members → Type 0) → Type 0
AtFact n ms P = AtEntry n ms (λ d. IsSomeAnd (as_table d) P)

-- ## The keys of a fact

-- a word that names no register at `register`; at another key no number of 32 bits
abbrev pub ValueFault : (key : List ℕ) → GivenFault → Data → Type 0
ValueFault key fault d =
    ((key ≡ codes "register") × NameFault given_faults named_register d fault)
    ⊎ ((key ≢ codes "register") × NumberFault given_faults (2 ^ 32 - 1) d fault)

-- a key that the fact may not have, the value at one that it takes, or one that it has to have and has not
abbrev pub PartFault : Part → Members → GivenFault → Type 0
PartFault (Unknown key) ms fault =
    IsSome (get_member key.now ms) × (is_one_of (fact_keys ms) key.now ≡ false) × (fault ≡ UnknownKey)
PartFault (Value key) ms fault =
    (is_one_of (fact_keys ms) key.now ≡ true) × AtKey key.now ms (ValueFault key.now fault)
PartFault (Missing key) ms fault =
    (is_one_of (fact_keys ms) key.now ≡ true) × (get_member key.now ms ≡ None) × (fault ≡ WrongKind)

-- `from` and `to` are words, and the first is above the other
abbrev pub IsDisordered : Members → Type 0
IsDisordered ms =
    (low high : ℕ)
    × AtKey (codes "from") ms (λ d. IsNumber (2 ^ 32 - 1) d low)
    × AtKey (codes "to") ms (λ d. IsNumber (2 ^ 32 - 1) d high)
    × (high < low)

-- ## Registers

-- the number of the register that an entry names
abbrev pub number_in : Data → Option ℕ
number_in d =
    option_map
    register_number
    (option_and_then
    named_register
    (option_and_then as_str (option_and_then (get_member (codes "register")) (as_table d))))

-- one of the first entries names the register of that number
abbrev pub IsAmongFirst : ℕ → Members → ℕ → Type 0
IsAmongFirst n ms a = Any (λ d. IsSomeAnd (number_in d) (λ b. b ≡ a)) (take n (entries ms))

-- ## The file

-- the document has the fault at the spot
abbrev pub IsGivenFaultAt : Members → GivenSpot → GivenFault → Type 0
IsGivenFaultAt ms (spot.Unknown key) fault =
    IsSome (get_member key.now ms) × (is_one_of file_keys key.now ≡ false) × (fault ≡ UnknownKey)
IsGivenFaultAt ms spot.NoList fault =
    AtKey (codes "given") ms (λ d. items_at d ≡ None) × (fault ≡ WrongKind)
IsGivenFaultAt ms (spot.NoTable n) fault = AtEntry n ms (λ d. as_table d ≡ None) × (fault ≡ WrongKind)
IsGivenFaultAt ms (spot.Fact n part) fault = AtFact n ms (λ t. PartFault part t fault)
IsGivenFaultAt ms (spot.Disordered n) fault = AtFact n ms IsDisordered × (fault ≡ OutOfRange)
IsGivenFaultAt ms (spot.Second n) fault =
    AtEntry n ms (λ d. IsSomeAnd (number_in d) (IsAmongFirst n ms)) × (fault ≡ Twice)

-- some spot has it
abbrev pub HasGivenFault : Members → GivenFault → Type 0
HasGivenFault ms fault = (s : GivenSpot) × IsGivenFaultAt ms s fault
