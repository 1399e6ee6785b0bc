-- What a document of TOML states and which faults it has, by its keys, numbers, lists and tables; the
-- lowest fault is the one that is answered.
use Rattle.std.specs.Prelude.{◌≡◌, ◌≤◌, ◌<◌, ◌⊎◌, ℕ, ℤ, pos, negsuc, true, false, List, [], IsTrue}
use Rattle.std.specs.Prelude.{Any, filter_map}
use Rattle.std.specs.Prelude.{Option, Some, None, IsSomeAnd, MatchOption, unwrap_or}
use Rattle.std.specs.List.{AllZip}
use Rattle.std.specs.Option.{option_and_then}
use Rattle.toml.specs.Data.{Data, Members, as_integer, as_str, as_table, get_member}
use Rattle.bus_ticks.specs.Prices.{is_word_address}
use Rattle.toml_reading.specs.Documents.{has_only_keys, items_at}
use Rattle.toml_reading.specs.Readings.{Faults}

-- a fault that exists, and none that exists is lower
pub record IsLowest {F : Type 0} (faults : Faults F) (Has : F → Type 0) (fault : F) : Type 0 where
  pub has : Has fault
  pub least : (other : F) → Has other → faults.rank fault ≤ faults.rank other

-- the one value that is stated
pub record IsOnly {A : Type 0} (States : A → Type 0) (a : A) : Type 0 where
  pub stated : States a
  pub only : (b : A) → States b → b ≡ a

-- ## Keys

-- the value at a key, which must be there
abbrev pub AtKey : List ℕ → Members → (Data → Type 0) → Type 0
AtKey key ms P = IsSomeAnd (get_member key ms) P

-- the value at a key, or what holds where the key is missing
abbrev pub AtKeyOr : List ℕ → Members → Type 0 → (Data → Type 0) → Type 0
AtKeyOr key ms Missing P = MatchOption (get_member key ms) Missing P

-- a table with no other keys than those, of which `Has` holds
abbrev pub IsTable : List (List ℕ) → (Members → Type 0) → Data → Type 0
IsTable keys Has d = IsSomeAnd (as_table d) (λ ms. (has_only_keys keys ms ≡ true) × Has ms)

-- the faults of a table's keys: an unknown one, and those of its values
abbrev pub KeysFault : {F : Type 0} → Faults F → List (List ℕ) → (Members → F → Type 0) → Members → F → Type 0
KeysFault faults keys Has ms fault =
    ((has_only_keys keys ms ≡ false) × (fault ≡ faults.unknown_key)) ⊎ Has ms fault

abbrev pub TableFault : {F : Type 0} → Faults F → List (List ℕ) → (Members → F → Type 0) → Data → F → Type 0
TableFault faults keys Has d fault =
    MatchOption (as_table d) (fault ≡ faults.wrong_kind) (λ ms. KeysFault faults keys Has ms fault)

-- ## Numbers

abbrev pub IsNumber : ℕ → Data → ℕ → Type 0
IsNumber limit d n = IsSomeAnd (as_integer d) (λ z. (z ≡ pos n) × (n ≤ limit))

-- negative or above the limit
abbrev pub IsOutside : ℕ → ℤ → Type 0
IsOutside limit z = (n : ℕ) → z ≡ pos n → limit < n

abbrev pub NumberFault : {F : Type 0} → Faults F → ℕ → Data → F → Type 0
NumberFault faults limit d fault =
    MatchOption
    (as_integer d)
    (fault ≡ faults.wrong_kind)
    (λ z. IsOutside limit z × (fault ≡ faults.out_of_range))

-- ## Names

-- a text that names something
abbrev pub IsNamed : {A : Type 0} → (List ℕ → Option A) → Data → A → Type 0
IsNamed named d a = option_and_then named (as_str d) ≡ Some a

-- a text that names nothing, or another type
abbrev pub NamesNothing : {A : Type 0} → (List ℕ → Option A) → Data → Type 0
NamesNothing named d = option_and_then named (as_str d) ≡ None

abbrev pub NameFault : {F A : Type 0} → Faults F → (List ℕ → Option A) → Data → F → Type 0
NameFault faults named d fault = NamesNothing named d × (fault ≡ faults.wrong_kind)

-- ## Addresses

-- no address of a word
abbrev pub IsNoAddress : ℤ → Type 0
IsNoAddress z = (a : ℕ) → z ≡ pos a → ¬ IsTrue (is_word_address a)

-- ## Lists

-- a list whose values state those things, one each in their order
abbrev pub IsListOf : {A : Type 0} → (Data → A → Type 0) → Data → List A → Type 0
IsListOf States d xs = IsSomeAnd (items_at d) (λ ds. AllZip States ds xs)

-- the faults of a list: those of each of its values
abbrev pub ListFault : {F : Type 0} → Faults F → (Data → F → Type 0) → Data → F → Type 0
ListFault faults Has d fault = MatchOption (items_at d) (fault ≡ faults.wrong_kind) (Any (λ e. Has e fault))

-- the values of the list at a key, none where there is no list
abbrev pub entries_at : List ℕ → Members → List Data
entries_at key ms = unwrap_or (option_and_then items_at (get_member key ms)) []

abbrev pub natural : ℤ → Option ℕ
natural (pos n) = Some n
natural (negsuc n) = None

abbrev pub number_of_entry : List ℕ → Data → Option ℕ
number_of_entry key d =
    option_and_then natural (option_and_then as_integer (option_and_then (get_member key) (as_table d)))

-- the numbers from 0 up at a key in the tables of a list
abbrev pub numbers_at : List ℕ → List Data → List ℕ
numbers_at key ds = filter_map (number_of_entry key) ds
