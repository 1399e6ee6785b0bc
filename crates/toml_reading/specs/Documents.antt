-- What is read of the documents of TOML: the keys of tables, lists, numbers and whole texts.
use Rattle.std.specs.Prelude.{◌≡◌, ◌&&◌, ◌⊎◌, not, ℕ, ℤ, pos, negsuc, Bool, true, List, []}
use Rattle.std.specs.Prelude.{◌∷◌, map, length, option_map, Option, Some, None, Ok, Err, nat_eq, nat_le}
use Rattle.std.specs.Prelude.{if◌then◌else◌}
use Rattle.std.specs.List.{list_any}
use Rattle.std.specs.Option.{option_and_then}
use Rattle.std.specs.Str.{IsUtf8, bytes_eq}
use Rattle.toml.specs.Data.{Data, Items, Members, no_items, item, no_members, member, get_member, as_array}
use Rattle.toml.specs.Data.{as_integer, as_str}
use Rattle.toml.specs.Parse.{parse_document}
use Rattle.bus_ticks.specs.Prices.{is_word_address}
use Rattle.toml_reading.specs.Readings.{Faults, Reading, all, check, optional, required, up_to}

-- ## Keys

abbrev pub is_one_of : (keys : List (List ℕ)) → List ℕ → Bool
is_one_of keys k = list_any (λ key. bytes_eq key k) keys

-- the table has no other keys than those
abbrev pub has_only_keys : (keys : List (List ℕ)) → Members → Bool
has_only_keys keys no_members = true
has_only_keys keys (member k d ms) = is_one_of keys k && has_only_keys keys ms

-- a table's reading, where it has no other keys
abbrev pub of_keys : {F A : Type 0} → Faults F → (keys : List (List ℕ)) → Members → Reading F A → Reading F A
of_keys faults keys ms reading = check faults (has_only_keys keys ms) faults.unknown_key reading

-- ## Numbers

abbrev pub number_at : {F : Type 0} → Faults F → ℕ → Data → Reading F ℕ
number_at faults limit d = required faults (as_integer d) (up_to faults limit)

-- the number at a key that must be there
abbrev pub number_in : {F : Type 0} → Faults F → List ℕ → ℕ → Members → Reading F ℕ
number_in faults key limit ms = required faults (get_member key ms) (number_at faults limit)

-- the number at a key, or `missing` where there is no such key
abbrev pub number_or : {F : Type 0} → Faults F → List ℕ → ℕ → ℕ → Members → Reading F ℕ
number_or faults key limit missing ms = optional missing (get_member key ms) (number_at faults limit)

-- ## Names

-- what a text names
abbrev pub name_at : {F A : Type 0} → Faults F → (List ℕ → Option A) → Data → Reading F A
name_at faults named d = required faults (option_and_then named (as_str d)) (λ a. Ok a)

-- ## Addresses

-- the address of a word
abbrev pub in_space : {F : Type 0} → Faults F → ℤ → Reading F ℕ
in_space faults (pos n) = if is_word_address n then Ok n else Err faults.out_of_range
in_space faults (negsuc n) = Err faults.out_of_range

-- ## Lists

abbrev pub list_of : Items → List Data
list_of no_items = []
list_of (item d ds) = d ∷ list_of ds

abbrev pub items_at : Data → Option (List Data)
items_at d = option_map list_of (as_array d)

-- what is read of each value of a list
abbrev pub listed : {F A : Type 0} → Faults F → (Data → Reading F A) → List Data → Reading F (List A)
listed faults reads ds = all faults (map reads ds)

abbrev pub list_at : {F A : Type 0} → Faults F → (Data → Reading F A) → Data → Reading F (List A)
list_at faults reads d = required faults (items_at d) (listed faults reads)

-- a list that is empty where its key is missing
abbrev pub tables_at : {F A : Type 0} → Faults F → (Data → Reading F A) → Option Data → Reading F (List A)
tables_at faults reads o = optional [] o (list_at faults reads)

-- the same of at most so many values
abbrev pub listed_up_to : {F A : Type 0} → Faults F → ℕ → (Data → Reading F A) → List Data
    → Reading F (List A)
listed_up_to faults limit reads ds =
    check faults (nat_le (length ds) limit) faults.out_of_range (listed faults reads ds)

abbrev pub list_up_to : {F A : Type 0} → Faults F → ℕ → (Data → Reading F A) → Data → Reading F (List A)
list_up_to faults limit reads d = required faults (items_at d) (listed_up_to faults limit reads)

abbrev pub tables_up_to : {F A : Type 0} → Faults F → ℕ → (Data → Reading F A) → Option Data
    → Reading F (List A)
tables_up_to faults limit reads o = optional [] o (list_up_to faults limit reads)

abbrev pub are_distinct : List ℕ → Bool
are_distinct [] = true
are_distinct (x ∷ xs) = not (list_any (nat_eq x) xs) && are_distinct xs

-- the value, where no two of its numbers are equal; else the fault
abbrev pub once : {F A : Type 0} → (twice : F) → (numbers : A → List ℕ) → A → Reading F A
once twice numbers a = if are_distinct (numbers a) then Ok a else Err twice

-- ## Texts

-- the text is UTF-8 and the document
pub record IsDocument (text : List ℕ) (ms : Members) : Type 0 where
  pub utf8 : IsUtf8 text
  pub parsed : parse_document text ≡ Some ms

-- the text is not UTF-8 or no document
abbrev pub IsNoDocument : List ℕ → Type 0
IsNoDocument text = IsUtf8 text → parse_document text ≡ None

-- the answer to a text: what is read of its document, or that it is none
abbrev pub IsAnswer : {F A : Type 0} → F → (Members → Reading F A) → List ℕ → Reading F A → Type 0
IsAnswer not_toml reads text answer =
    ((ms : Members) × IsDocument text ms × (answer ≡ reads ms))
    ⊎ (IsNoDocument text × (answer ≡ Err not_toml))
