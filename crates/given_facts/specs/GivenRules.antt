-- Which facts the document of a file states, key by key.
use Rattle.std.specs.Prelude.{◌≡◌, ◌⊎◌, ◌≤◌, ◌-◌, ◌^◌, ℕ, true, false, List, [], codes, IsSomeAnd}
use Rattle.toml.specs.Data.{Data, Members, as_table}
use Rattle.known_words.specs.declared.given.Given.{Given}
use Rattle.toml_reading.specs.Documents.{are_distinct, has_only_keys}
use Rattle.toml_reading.specs.Lowest.{AtKey, AtKeyOr, IsListOf, IsNamed, IsNumber}
use Rattle.given_facts.specs.GivenFile.{fact_keys, file_keys, is_range, named_register, numbers}

-- a number of 32 bits at the key
abbrev pub HasWord : (key : List ℕ) → Members → ℕ → Type 0
HasWord key ms n = AtKey key ms (λ d. IsNumber (2 ^ 32 - 1) d n)

-- the least and the greatest word: `from` and `to`, in this order, or both are `value`
abbrev pub StatesEnds : Members → (low high : ℕ) → Type 0
StatesEnds ms low high =
    ((is_range ms ≡ true)
    × HasWord (codes "from") ms low
    × HasWord (codes "to") ms high
    × (low ≤ high))
    ⊎ ((is_range ms ≡ false) × HasWord (codes "value") ms low × (high ≡ low))

abbrev pub StatesFact : Members → Given → Type 0
StatesFact ms g =
    AtKey (codes "register") ms (λ d. IsNamed named_register d g.register) × StatesEnds ms g.low g.high

-- a table with no other keys than these
abbrev pub IsFact : Data → Given → Type 0
IsFact d g = IsSomeAnd (as_table d) (λ ms. (has_only_keys (fact_keys ms) ms ≡ true) × StatesFact ms g)

-- one fact for each entry of the list, in their order; no two on one register
pub record StatesFacts (ms : Members) (facts : List Given) : Type 0 where
  pub known : has_only_keys file_keys ms ≡ true
  pub listed : AtKeyOr (codes "given") ms (facts ≡ []) (λ d. IsListOf IsFact d facts)
  pub once : are_distinct (numbers facts) ≡ true
