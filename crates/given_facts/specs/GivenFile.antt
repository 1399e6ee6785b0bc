-- Which facts a text states, and its faults, of which the lowest over the whole text is answered (over the
-- documents of TOML).
use Rattle.std.specs.Prelude.{◌||◌, ◌-◌, ◌^◌, ℕ, Bool, List, [], ◌∷◌, codes, map, nat_le, if◌then◌else◌}
use Rattle.std.specs.Prelude.{Option, Some, None, Ok, Err, is_some}
use Rattle.std.specs.Option.{option_and_then}
use Rattle.toml.specs.Data.{Data, Members, as_table, get_member}
use Rattle.arm2_decode.specs.Names.{is_pc, register_number}
use Rattle.arm2_decode.specs.declared.names.Register.{Register}
use Rattle.asm_text.specs.Registers.{register_of}
use Rattle.known_words.specs.declared.given.Given.{Given}
use Rattle.toml_reading.specs.Documents.{IsAnswer, are_distinct, name_at, number_in, of_keys, once, tables_at}
use Rattle.toml_reading.specs.Readings.{Reading, and_then, pair, reading_map, required}
use Rattle.given_facts.specs.GivenFaults.{given_faults}
use Rattle.given_facts.specs.declared.faults.GivenFault.{GivenFault}
use Rattle.given_facts.specs.declared.faults.GivenFault.TheVariants.{NotToml, OutOfRange, Twice}

abbrev pub Read : Type 0 → Type 0
Read A = Reading GivenFault A

-- ## Keys

abbrev pub file_keys : List (List ℕ)
file_keys = codes "given" ∷ []

abbrev pub value_keys : List (List ℕ)
value_keys = codes "register" ∷ codes "value" ∷ []

abbrev pub range_keys : List (List ℕ)
range_keys = codes "register" ∷ codes "from" ∷ codes "to" ∷ []

abbrev pub has_key : List ℕ → Members → Bool
has_key key ms = is_some (get_member key ms)

-- the fact states a range, and not one value
abbrev pub is_range : Members → Bool
is_range ms = has_key (codes "from") ms || has_key (codes "to") ms

abbrev pub fact_keys : Members → List (List ℕ)
fact_keys ms = if is_range ms then range_keys else value_keys

-- ## One fact

abbrev pub unless_pc : Register → Option Register
unless_pc r = if is_pc r then None else Some r

-- the register from R0 to R14 that a word names, as in a source
abbrev pub named_register : List ℕ → Option Register
named_register w = option_and_then unless_pc (register_of w)

abbrev pub register_at : Data → Read Register
register_at d = name_at given_faults named_register d

abbrev pub register_in : Members → Read Register
register_in ms = required given_faults (get_member (codes "register") ms) register_at

abbrev pub word_in : List ℕ → Members → Read ℕ
word_in key ms = number_in given_faults key (2 ^ 32 - 1) ms

-- the least and the greatest word, in this order
abbrev pub ordered : ℕ × ℕ → Read (ℕ × ℕ)
ordered ends = if nat_le ends.0 ends.1 then Ok ends else Err OutOfRange

abbrev pub range_in : Members → Read (ℕ × ℕ)
range_in ms = and_then (pair given_faults (word_in (codes "from") ms) (word_in (codes "to") ms)) ordered

-- one value is both
abbrev pub value_in : Members → Read (ℕ × ℕ)
value_in ms = reading_map (λ n. (n, n)) (word_in (codes "value") ms)

abbrev pub ends_in : Members → Read (ℕ × ℕ)
ends_in ms = if is_range ms then range_in ms else value_in ms

abbrev pub fact_of : Register × (ℕ × ℕ) → Given
fact_of p = record { register = p.0; low = p.1.0; high = p.1.1 }

abbrev pub fact_in : Members → Read Given
fact_in ms =
    of_keys
    given_faults
    (fact_keys ms)
    ms
    (reading_map fact_of (pair given_faults (register_in ms) (ends_in ms)))

abbrev pub fact_at : Data → Read Given
fact_at d = required given_faults (as_table d) fact_in

-- ## The file

abbrev pub numbers : List Given → List ℕ
numbers facts = map (λ g. register_number g.register) facts

-- in the text's order, one fact at most for a register
abbrev pub listed_facts : Members → Read (List Given)
listed_facts ms =
    and_then (tables_at given_faults fact_at (get_member (codes "given") ms)) (once Twice numbers)

abbrev pub facts_in : Members → Read (List Given)
facts_in ms = of_keys given_faults file_keys ms (listed_facts ms)

-- the answer to a text, but for lack of memory
abbrev pub IsFactsFile : List ℕ → Read (List Given) → Type 0
IsFactsFile text answer = IsAnswer NotToml facts_in text answer
