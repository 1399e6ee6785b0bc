-- Where in a statement's document a fault is: each fault of `StatementRules`, with the spot that has it.
use Rattle.std.specs.Prelude.{◌≡◌, ◌<◌, ◌⊎◌, ℕ, Bool, true, false, List, [], ◌∷◌, codes, length, take, Any}
use Rattle.std.specs.Prelude.{Option, Some, None, IsSome, IsSomeAnd, if◌then◌else◌}
use Rattle.std.specs.List.{slice_get}
use Rattle.std.specs.Str.{bytes_eq}
use Rattle.toml.specs.Data.{Data, Members, as_table, get_member}
use Rattle.toml_reading.specs.Documents.{is_one_of, items_at}
use Rattle.toml_reading.specs.Lowest.{AtKey, IsNamed, NameFault, NumberFault, entries_at}
use Rattle.arm2_decode.specs.declared.names.Register.{Register}
use Rattle.asm_text.specs.Registers.{register_of}
use Rattle.image.specs.Labels.{Names}
use Rattle.walks.specs.declared.limits.TheConstants.{MOST_ROUNDS}
use Rattle.statement.specs.Statement.{access_keys, branch_keys, loop_keys, multiply_keys, pair_at}
use Rattle.statement.specs.Statement.{named_class}
use Rattle.statement.specs.Statement.{named_kind, named_leave, named_returns, named_taken, rule_keys}
use Rattle.statement.specs.Statement.{statement_keys, target_keys}
use Rattle.statement.specs.StatementFaults.{statement_faults}
use Rattle.statement.specs.StatementRules.{AddressFault, AreReversed, AreStretches, CyclesFault, IsAddress}
use Rattle.statement.specs.StatementRules.{IsAt, IsMisplaced, IsReversed, IsRuleAt, RequiredFault}
use Rattle.statement.specs.declared.apart.ApartStretch.{ApartStretch}
use Rattle.statement.specs.declared.faults.StatementFault.{StatementFault}
use Rattle.statement.specs.declared.faults.StatementFault.TheVariants.{UnknownKey, WrongKind, OutOfRange}
use Rattle.statement.specs.declared.faults.StatementFault.TheVariants.{Twice}
use Rattle.statement.specs.declared.spots.Key.{Key}
use Rattle.statement.specs.declared.spots.Key.TheVariants.{Entry, Leave, Returns, Header, First, Last, Bound}
use Rattle.statement.specs.declared.spots.Key.TheVariants.{At, Kind, To, Class, Register as Base, Cycles}
use Rattle.statement.specs.declared.spots.Key.TheVariants.{Taken}
use Rattle.statement.specs.declared.spots.Part.{Part}
use Rattle.statement.specs.declared.spots.Part.TheVariants.{Unknown, Value, Missing}
use Rattle.statement.specs.declared.spots.Spot.{Spot}
use Rattle.statement.specs.declared.spots.Spot.TheVariants as spot
use Rattle.statement.specs.declared.spots.TableList.{TableList}
use Rattle.statement.specs.declared.spots.TableList.TheVariants.{Loops, Targets, Accesses, Rules, Multiplies}
use Rattle.statement.specs.declared.spots.TableList.TheVariants.{Branches}
use Rattle.statement.specs.declared.stated.TargetKind.{TargetKind}
use Rattle.statement.specs.declared.stated.TargetKind.TheVariants.{Jump, Call, Return, Leave as Leaving}

-- ## Names and limits

abbrev pub list_key : TableList → List ℕ
list_key Loops = codes "loop"
list_key Targets = codes "target"
list_key Accesses = codes "access"
list_key Rules = codes "base"
list_key Multiplies = codes "multiply"
list_key Branches = codes "branch"

abbrev pub most_of : TableList → ℕ
most_of Loops = 256
most_of Targets = 1024
most_of Accesses = 4096
most_of Rules = 256
most_of Multiplies = 1024
most_of Branches = 1024

abbrev pub key_name : Key → List ℕ
key_name Entry = codes "entry"
key_name Leave = codes "leave"
key_name Returns = codes "returns"
key_name Header = codes "header"
key_name First = codes "first"
key_name Last = codes "last"
key_name Bound = codes "bound"
key_name At = codes "at"
key_name Kind = codes "kind"
key_name To = codes "to"
key_name Class = codes "class"
key_name Base = codes "register"
key_name Cycles = codes "cycles"
key_name Taken = codes "taken"

-- the first of the keys that a word names
abbrev pub key_among : List Key → List ℕ → Option Key
key_among [] w = None
key_among (key ∷ keys) w = if bytes_eq (key_name key) w then Some key else key_among keys w

abbrev pub all_keys : List Key
all_keys =
    Entry ∷ Leave ∷ Returns ∷ Header ∷ First ∷ Last ∷ Bound ∷ At ∷ Kind ∷ To ∷ Class ∷ Base ∷ Cycles ∷ Taken
    ∷ []

abbrev pub named_key : List ℕ → Option Key
named_key w = key_among all_keys w

-- the keys that a table of the list may have, or the statement itself
abbrev pub keys_of : Option TableList → List (List ℕ)
keys_of None = statement_keys
keys_of (Some Loops) = loop_keys
keys_of (Some Targets) = target_keys
keys_of (Some Accesses) = access_keys
keys_of (Some Rules) = rule_keys
keys_of (Some Multiplies) = multiply_keys
keys_of (Some Branches) = branch_keys

-- the entry of the list with the index, from 0, is a table of which that holds
abbrev pub InTable : TableList → ℕ → Members → (Members → Type 0) → Type 0
InTable list n ms P =
    IsSomeAnd (slice_get (entries_at (list_key list) ms) n) (λ d. IsSomeAnd (as_table d) P)

-- the entry of `apart` with the index is a list of two values, of which that holds
abbrev pub InStretch : ℕ → Members → (Data × Data → Type 0) → Type 0
InStretch n ms P =
    IsSomeAnd (slice_get (entries_at (codes "apart") ms) n) (λ d. IsSomeAnd (pair_at d) P)

-- the first of the two, or the last
abbrev pub end_of : Data × Data → ℕ → Option Data
end_of ends i = slice_get (ends.0 ∷ ends.1 ∷ []) i

-- ## Targets

-- a jump and a call go to destinations
abbrev pub has_destinations : TargetKind → Bool
has_destinations Jump = true
has_destinations Call = true
has_destinations Return = false
has_destinations Leaving = false

-- the table's kind is known, and goes to destinations or does not
abbrev pub GoesOn : Bool → Members → Type 0
GoesOn goes ms =
    (kind : TargetKind)
    × AtKey (codes "kind") ms (λ d. IsNamed named_kind d kind)
    × (has_destinations kind ≡ goes)

-- there must be destinations, and there are none
abbrev pub NoDestinationsFault : Members → StatementFault → Type 0
NoDestinationsFault ms fault = GoesOn true ms × (entries_at (codes "to") ms ≡ []) × (fault ≡ WrongKind)

-- ## Values that appear twice

-- the value with the index is of a number that an earlier one is of
abbrev pub IsRepeatAt : (Data → ℕ → Type 0) → List Data → ℕ → Type 0
IsRepeatAt Is ds n =
    (a : ℕ) × IsSomeAnd (slice_get ds n) (λ d. Is d a) × Any (λ e. Is e a) (take n ds)

module _ (names : Names) where
  -- ## The keys of a table

  -- the fault of a key that the statement may have, but for its lists: of its value, or that there is none
  abbrev pub OwnKeyFault : Key → Members → StatementFault → Type 0
  OwnKeyFault Entry ms fault = RequiredFault (codes "entry") ms (AddressFault names) fault
  OwnKeyFault Leave ms fault = AtKey (codes "leave") ms (λ d. NameFault statement_faults named_leave d fault)
  OwnKeyFault Returns ms fault =
      AtKey (codes "returns") ms (λ d. NameFault statement_faults named_returns d fault)
  OwnKeyFault _ ms fault = ⊥

  abbrev pub LoopKeyFault : Key → Members → StatementFault → Type 0
  LoopKeyFault Header ms fault = RequiredFault (codes "header") ms (AddressFault names) fault
  LoopKeyFault First ms fault = RequiredFault (codes "first") ms (AddressFault names) fault
  LoopKeyFault Last ms fault = RequiredFault (codes "last") ms (AddressFault names) fault
  LoopKeyFault Bound ms fault =
      RequiredFault (codes "bound") ms (NumberFault statement_faults MOST_ROUNDS) fault
  LoopKeyFault _ ms fault = ⊥

  abbrev pub TargetKeyFault : Key → Members → StatementFault → Type 0
  TargetKeyFault At ms fault = RequiredFault (codes "at") ms (AddressFault names) fault
  TargetKeyFault Kind ms fault = RequiredFault (codes "kind") ms (NameFault statement_faults named_kind) fault
  TargetKeyFault To ms fault = NoDestinationsFault ms fault
  TargetKeyFault _ ms fault = ⊥

  abbrev pub AccessKeyFault : Key → Members → StatementFault → Type 0
  AccessKeyFault At ms fault = RequiredFault (codes "at") ms (AddressFault names) fault
  AccessKeyFault Class ms fault =
      RequiredFault (codes "class") ms (NameFault statement_faults named_class) fault
  AccessKeyFault _ ms fault = ⊥

  abbrev pub RuleKeyFault : Key → Members → StatementFault → Type 0
  RuleKeyFault Base ms fault =
      RequiredFault (codes "register") ms (NameFault statement_faults register_of) fault
  RuleKeyFault Class ms fault =
      RequiredFault (codes "class") ms (NameFault statement_faults named_class) fault
  RuleKeyFault First ms fault = AtKey (codes "first") ms (λ d. AddressFault names d fault)
  RuleKeyFault Last ms fault = AtKey (codes "last") ms (λ d. AddressFault names d fault)
  RuleKeyFault _ ms fault = ⊥

  abbrev pub MultiplyKeyFault : Key → Members → StatementFault → Type 0
  MultiplyKeyFault At ms fault = RequiredFault (codes "at") ms (AddressFault names) fault
  MultiplyKeyFault Cycles ms fault = RequiredFault (codes "cycles") ms CyclesFault fault
  MultiplyKeyFault _ ms fault = ⊥

  abbrev pub BranchKeyFault : Key → Members → StatementFault → Type 0
  BranchKeyFault At ms fault = RequiredFault (codes "at") ms (AddressFault names) fault
  BranchKeyFault Taken ms fault =
      RequiredFault (codes "taken") ms (NameFault statement_faults named_taken) fault
  BranchKeyFault _ ms fault = ⊥

  -- of a table of the list, or of the statement itself
  abbrev pub KeyFault : Option TableList → Key → Members → StatementFault → Type 0
  KeyFault None key ms fault = OwnKeyFault key ms fault
  KeyFault (Some Loops) key ms fault = LoopKeyFault key ms fault
  KeyFault (Some Targets) key ms fault = TargetKeyFault key ms fault
  KeyFault (Some Accesses) key ms fault = AccessKeyFault key ms fault
  KeyFault (Some Rules) key ms fault = RuleKeyFault key ms fault
  KeyFault (Some Multiplies) key ms fault = MultiplyKeyFault key ms fault
  KeyFault (Some Branches) key ms fault = BranchKeyFault key ms fault

  -- a key that the table may not have, or the fault of one that it may have, which is there or is not
  abbrev pub PartFault : Option TableList → Part → Members → StatementFault → Type 0
  PartFault of (Unknown key) ms fault =
      IsSome (get_member key.now ms) × (is_one_of (keys_of of) key.now ≡ false) × (fault ≡ UnknownKey)
  PartFault of (Value key) ms fault = IsSome (get_member (key_name key) ms) × KeyFault of key ms fault
  PartFault of (Missing key) ms fault = (get_member (key_name key) ms ≡ None) × KeyFault of key ms fault

  -- ## The statement

  -- a destination has the fault, or an earlier one is of its address
  abbrev pub DestinationFault : ℕ → List Data → StatementFault → Type 0
  DestinationFault n ds fault =
      IsSomeAnd (slice_get ds n) (λ d. AddressFault names d fault)
      ⊎ (IsRepeatAt (IsAddress names) ds n × (fault ≡ Twice))

  -- an earlier entry of the list is of its address, or an earlier rule for its register shares one with it
  abbrev pub IsSecond : TableList → ℕ → Members → Type 0
  IsSecond Loops n ms = ⊥
  IsSecond Targets n ms = IsRepeatAt (IsAt names) (entries_at (codes "target") ms) n
  IsSecond Accesses n ms = IsRepeatAt (IsAt names) (entries_at (codes "access") ms) n
  IsSecond Rules n ms = (base : Register) × IsRepeatAt (IsRuleAt names base) (entries_at (codes "base") ms) n
  IsSecond Multiplies n ms = IsRepeatAt (IsAt names) (entries_at (codes "multiply") ms) n
  IsSecond Branches n ms = IsRepeatAt (IsAt names) (entries_at (codes "branch") ms) n

  -- the document has the fault at the spot
  abbrev pub IsFaultAt : Members → Spot → StatementFault → Type 0
  IsFaultAt ms (spot.Own part) fault = PartFault None part ms fault
  IsFaultAt ms (spot.NoList list) fault =
      AtKey (list_key list) ms (λ d. (items_at d ≡ None) × (fault ≡ WrongKind))
  IsFaultAt ms (spot.TooMany list) fault =
      (most_of list < length (entries_at (list_key list) ms)) × (fault ≡ OutOfRange)
  IsFaultAt ms (spot.NoTable list n) fault =
      IsSomeAnd
      (slice_get (entries_at (list_key list) ms) n)
      (λ d. (as_table d ≡ None) × (fault ≡ WrongKind))
  IsFaultAt ms (spot.Listed list n part) fault =
      InTable list n ms (λ table. PartFault (Some list) part table fault)
  IsFaultAt ms (spot.Misplaced n) fault =
      (apart : List ApartStretch)
      × AreStretches names ms apart
      × InTable Loops n ms (λ table. IsMisplaced names apart table × (fault ≡ OutOfRange))
  IsFaultAt ms (spot.Unwanted n) fault =
      InTable Targets n ms
      (λ table. GoesOn false table × IsSome (get_member (codes "to") table) × (fault ≡ WrongKind))
  IsFaultAt ms (spot.TooManyDestinations n) fault =
      InTable Targets n ms
      (λ table. GoesOn true table × (64 < length (entries_at (codes "to") table)) × (fault ≡ OutOfRange))
  IsFaultAt ms (spot.Destination n i) fault =
      InTable Targets n ms
      (λ table. GoesOn true table × DestinationFault i (entries_at (codes "to") table) fault)
  IsFaultAt ms (spot.Reversed n) fault =
      InTable Rules n ms (λ table. IsReversed names table × (fault ≡ OutOfRange))
  IsFaultAt ms spot.NoStretches fault =
      AtKey (codes "apart") ms (λ d. (items_at d ≡ None) × (fault ≡ WrongKind))
  IsFaultAt ms spot.TooManyStretches fault =
      (256 < length (entries_at (codes "apart") ms)) × (fault ≡ OutOfRange)
  IsFaultAt ms (spot.NoStretch n) fault =
      IsSomeAnd
      (slice_get (entries_at (codes "apart") ms) n)
      (λ d. (pair_at d ≡ None) × (fault ≡ WrongKind))
  IsFaultAt ms (spot.StretchEnd n i) fault =
      InStretch n ms (λ ends. IsSomeAnd (end_of ends i) (λ d. AddressFault names d fault))
  IsFaultAt ms (spot.ReversedStretch n) fault =
      InStretch n ms (λ ends. AreReversed names ends × (fault ≡ OutOfRange))
  IsFaultAt ms (spot.Second list n) fault = IsSecond list n ms × (fault ≡ Twice)
