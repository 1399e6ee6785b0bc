-- Which faults a machine file has, in all its tables (over the documents of TOML).
use Rattle.std.specs.Prelude.{◌≡◌, ◌≢◌, ◌⊎◌, ◌-◌, ◌^◌, ⊤, ℕ, ℤ, pos, Bool, true, false, List, [], ◌∷◌, codes}
use Rattle.std.specs.Prelude.{map, Any, nat_lt, None, IsSomeAnd, IsTrue, MatchOption}
use Rattle.std.specs.List.{list_all}
use Rattle.toml.specs.Data.{Data, Members, as_integer, as_str, as_table, get_member}
use Rattle.image.specs.Image.{may_hold}
use Rattle.memc.specs.Memory.{shift_of_size}
use Rattle.memc.specs.declared.pages.TheConstants.{PHYSICAL_PAGES}
use Rattle.memc.specs.declared.spots.PageSize.{PageSize}
use Rattle.memc.specs.declared.spots.PageSize.TheVariants.{K4}
use Rattle.toml_reading.specs.Documents.{are_distinct, has_only_keys, items_at}
use Rattle.toml_reading.specs.Lowest.{AtKey, AtKeyOr, IsNoAddress, IsOutside, NamesNothing, entries_at}
use Rattle.toml_reading.specs.Lowest.{numbers_at}
use Rattle.machine_file.specs.MachineFile.{are_latched, is_letter, is_single}
use Rattle.ioc.specs.LineNames.{line_named}
use Rattle.machine_file.specs.MachineRules.{IsSize, kilobytes}
use Rattle.machine_file.specs.Names.{event_keys, file_keys, ioc_keys, map_keys, name_of, named_mode}
use Rattle.machine_file.specs.Names.{named_registers, register_keys, vidc_keys, word_keys}
use Rattle.machine_file.specs.declared.machine_faults.MachineFileFault.{MachineFileFault}
use Rattle.machine_file.specs.declared.machine_faults.MachineFileFault.TheVariants.{UnknownKey, WrongKind}
use Rattle.machine_file.specs.declared.machine_faults.MachineFileFault.TheVariants.{OutOfRange, Twice}
use Rattle.machine_file.specs.declared.rows.Takes.{Takes}
use Rattle.machine_file.specs.declared.rows.Takes.TheVariants.{UpTo, Address, PutAddress, Size, ModeName}
use Rattle.machine_file.specs.declared.rows.Takes.TheVariants.{FlagLetters, LatchedBits, LineNames}
use Rattle.machine_file.specs.declared.spots.EntryNumber.{EntryNumber}
use Rattle.machine_file.specs.declared.spots.EntryNumber.TheVariants as number

-- ## What the keys take

-- a key, what it takes, and whether it has to be there
pub record Row : Type 0 where
  pub key : List ℕ
  pub takes : Takes
  pub required : Bool

abbrev pub needs : List ℕ → Takes → Row
needs key takes = record { key = key; takes = takes; required = true }

abbrev pub may_have : List ℕ → Takes → Row
may_have key takes = record { key = key; takes = takes; required = false }

abbrev pub Word : Takes
Word = UpTo (2 ^ 32 - 1)

-- a table of the file: all keys that it may have, and the rows of those that do not hold tables of their own
pub record Shape : Type 0 where
  pub keys : List (List ℕ)
  pub rows : List Row

abbrev pub file_shape : Shape
file_shape = record {
  keys = file_keys;
  rows =
      needs (codes "pc") Address
      ∷ may_have (codes "mode") ModeName
      ∷ may_have (codes "flags") FlagLetters
      ∷ may_have (codes "low_rom") (UpTo 3)
      ∷ may_have (codes "high_rom") (UpTo 3)
      ∷ may_have (codes "pages") Size
      ∷ may_have (codes "steps") (UpTo 65536)
      ∷ may_have (codes "port") Word
      ∷ [];
}

abbrev pub register_shape : Shape
register_shape = record { keys = register_keys; rows = map (λ r. may_have (name_of r) Word) named_registers }

abbrev pub map_shape : Shape
map_shape = record {
  keys = map_keys;
  rows = needs (codes "logical") Word ∷ needs (codes "physical") Word ∷ needs (codes "level") Word ∷ [];
}

abbrev pub event_shape : Shape
event_shape = record {
  keys = event_keys;
  rows =
      needs (codes "step") (UpTo 65535)
      ∷ may_have (codes "bursts") (UpTo 65535)
      ∷ may_have (codes "lines") LineNames
      ∷ may_have (codes "port") Word
      ∷ [];
}

abbrev pub put_word_shape : Shape
put_word_shape =
    record { keys = word_keys; rows = needs (codes "at") PutAddress ∷ needs (codes "value") Word ∷ [] }

abbrev pub ioc_shape : Shape
ioc_shape = record {
  keys = ioc_keys;
  rows =
      may_have (codes "mask_a") (UpTo 0xFF)
      ∷ may_have (codes "mask_b") (UpTo 0xFF)
      ∷ may_have (codes "mask_fiq") (UpTo 0xFF)
      ∷ may_have (codes "requests_a") LatchedBits
      ∷ may_have (codes "timer_0") (UpTo 0xFFFF)
      ∷ may_have (codes "count_0") (UpTo 0xFFFF)
      ∷ may_have (codes "timer_1") (UpTo 0xFFFF)
      ∷ may_have (codes "count_1") (UpTo 0xFFFF)
      ∷ [];
}

abbrev pub vidc_shape : Shape
vidc_shape = record {
  keys = vidc_keys;
  rows =
      may_have (codes "horizontal_cycle") (UpTo 0x3FF)
      ∷ may_have (codes "vertical_cycle") (UpTo 0x3FF)
      ∷ may_have (codes "display_end") (UpTo 0x3FF)
      ∷ may_have (codes "pixel_rate") (UpTo 3)
      ∷ may_have (codes "ticks") Word
      ∷ [];
}

-- ## The tables of a file

-- that holds of a table of the file: of its own, of one in `map`, `event` or `word`, or of `registers`, `ioc`
-- or `vidc`
abbrev pub OfSomeTable : (Shape → Members → Type 0) → Members → Type 0
OfSomeTable P ms =
    P file_shape ms
    ⊎ AtKey (codes "registers") ms (λ d. IsSomeAnd (as_table d) (P register_shape))
    ⊎ Any (λ d. IsSomeAnd (as_table d) (P map_shape)) (entries_at (codes "map") ms)
    ⊎ Any (λ d. IsSomeAnd (as_table d) (P event_shape)) (entries_at (codes "event") ms)
    ⊎ Any (λ d. IsSomeAnd (as_table d) (P put_word_shape)) (entries_at (codes "word") ms)
    ⊎ AtKey (codes "ioc") ms (λ d. IsSomeAnd (as_table d) (P ioc_shape))
    ⊎ AtKey (codes "vidc") ms (λ d. IsSomeAnd (as_table d) (P vidc_shape))

-- ## A key that its table may not have

abbrev pub HasOtherKey : Shape → Members → Type 0
HasOtherKey shape ms = has_only_keys shape.keys ms ≡ false

-- ## A missing key, or a value of the wrong kind

abbrev pub LacksKey : Shape → Members → Type 0
LacksKey shape ms = Any (λ row. (row.required ≡ true) × (get_member row.key ms ≡ None)) shape.rows

-- a value of another type, a text that names no mode or has another letter, a list with a value that names no
-- line
abbrev pub IsOtherKind : Takes → Data → Type 0
IsOtherKind (UpTo limit) d = as_integer d ≡ None
IsOtherKind Address d = as_integer d ≡ None
IsOtherKind PutAddress d = as_integer d ≡ None
IsOtherKind Size d = as_integer d ≡ None
IsOtherKind LatchedBits d = as_integer d ≡ None
IsOtherKind ModeName d = NamesNothing named_mode d
IsOtherKind FlagLetters d = MatchOption (as_str d) ⊤ (λ text. list_all is_letter text ≡ false)
IsOtherKind LineNames d = MatchOption (items_at d) ⊤ (Any (NamesNothing line_named))

abbrev pub HasOtherKind : Shape → Members → Type 0
HasOtherKind shape ms = Any (λ row. AtKey row.key ms (IsOtherKind row.takes)) shape.rows

abbrev pub IsNoTable : Data → Type 0
IsNoTable d = as_table d ≡ None

-- no list, or one with a value that is no table
abbrev pub AreNoTables : Data → Type 0
AreNoTables d = MatchOption (items_at d) ⊤ (Any IsNoTable)

abbrev pub HasWrongKind : Members → Type 0
HasWrongKind ms =
    OfSomeTable LacksKey ms
    ⊎ OfSomeTable HasOtherKind ms
    ⊎ AtKey (codes "registers") ms IsNoTable
    ⊎ AtKey (codes "map") ms AreNoTables
    ⊎ AtKey (codes "event") ms AreNoTables
    ⊎ AtKey (codes "word") ms AreNoTables
    ⊎ AtKey (codes "ioc") ms IsNoTable
    ⊎ AtKey (codes "vidc") ms IsNoTable

-- ## A number that its key does not take, or a page that cannot be mapped

-- no multiple of 4, negative, past 3FFFFFC, or in I/O
abbrev pub IsNoPutAddress : ℤ → Type 0
IsNoPutAddress z = (n : ℕ) → z ≡ pos n → ¬ IsTrue (may_hold n)

-- no byte, or one with another bit than those that are latched
abbrev pub AreNoRequests : ℤ → Type 0
AreNoRequests z = (n : ℕ) → z ≡ pos n → ¬ IsTrue (are_latched n)

abbrev pub IsOtherNumber : Takes → Data → Type 0
IsOtherNumber (UpTo limit) d = IsSomeAnd (as_integer d) (IsOutside limit)
IsOtherNumber Address d = IsSomeAnd (as_integer d) IsNoAddress
IsOtherNumber PutAddress d = IsSomeAnd (as_integer d) IsNoPutAddress
IsOtherNumber Size d = IsSomeAnd (as_integer d) (λ z. (size : PageSize) → z ≢ pos (kilobytes size))
IsOtherNumber LatchedBits d = IsSomeAnd (as_integer d) AreNoRequests
IsOtherNumber _ d = ⊥

abbrev pub HasOtherNumber : Shape → Members → Type 0
HasOtherNumber shape ms = Any (λ row. AtKey row.key ms (IsOtherNumber row.takes)) shape.rows

abbrev pub are_below : ℕ → List ℕ → Bool
are_below limit numbers = list_all (λ n. nat_lt n limit) numbers

-- the numbers at a key in the tables of `map`
abbrev pub page_numbers : List ℕ → Members → List ℕ
page_numbers key ms = numbers_at key (entries_at (codes "map") ms)

-- that holds of what a number of a page has to be below: MEMC maps 2 ^ 25 bytes of logical pages, and its
-- physical pages, at levels 0 to 3
abbrev pub OfLimit : EntryNumber → Members → (ℕ → Type 0) → Type 0
OfLimit number.Logical ms P =
    (size : PageSize)
    × AtKeyOr (codes "pages") ms (size ≡ K4) (λ d. IsSize d size)
    × P (2 ^ (25 - shift_of_size size))
OfLimit number.Physical ms P = P PHYSICAL_PAGES
OfLimit number.Level ms P = P 4
OfLimit _ ms P = ⊥

abbrev pub IsUnmappable : Members → Type 0
IsUnmappable ms =
    OfLimit number.Logical ms (λ limit. are_below limit (page_numbers (codes "logical") ms) ≡ false)
    ⊎ OfLimit number.Physical ms (λ limit. are_below limit (page_numbers (codes "physical") ms) ≡ false)
    ⊎ OfLimit number.Level ms (λ limit. are_below limit (page_numbers (codes "level") ms) ≡ false)

-- ## Something twice

-- a letter of the flags
abbrev pub IsLetterTwice : Members → Type 0
IsLetterTwice ms = AtKey (codes "flags") ms (λ d. IsSomeAnd (as_str d) (λ text. is_single text ≡ false))

-- a logical or a physical page
abbrev pub IsPageTwice : Members → Type 0
IsPageTwice ms =
    (are_distinct (page_numbers (codes "logical") ms) ≡ false)
    ⊎ (are_distinct (page_numbers (codes "physical") ms) ≡ false)

-- the step of an event
abbrev pub IsStepTwice : Members → Type 0
IsStepTwice ms = are_distinct (numbers_at (codes "step") (entries_at (codes "event") ms)) ≡ false

-- the address of a word that is put into memory
abbrev pub IsWordTwice : Members → Type 0
IsWordTwice ms = are_distinct (numbers_at (codes "at") (entries_at (codes "word") ms)) ≡ false

-- ## The faults

abbrev pub HasMachineFault : Members → MachineFileFault → Type 0
HasMachineFault ms fault =
    (OfSomeTable HasOtherKey ms × (fault ≡ UnknownKey))
    ⊎ (HasWrongKind ms × (fault ≡ WrongKind))
    ⊎ ((OfSomeTable HasOtherNumber ms ⊎ IsUnmappable ms) × (fault ≡ OutOfRange))
    ⊎ ((IsLetterTwice ms ⊎ IsPageTwice ms ⊎ IsStepTwice ms ⊎ IsWordTwice ms) × (fault ≡ Twice))
