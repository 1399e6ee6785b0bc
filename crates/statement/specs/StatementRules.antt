-- What a document states of a handler and which faults it has, key by key (over the documents of TOML).
use Rattle.std.specs.Prelude.{◌≡◌, ◌≢◌, ◌<◌, ◌≤◌, ◌⊎◌, ◌+◌, ◌-◌, ◌%◌, ℕ, ℤ, pos, true, List, [], ◌∷◌, ◌++◌}
use Rattle.std.specs.Prelude.{Option, Some, None, IsSomeAnd, MatchOption, All, AllPairs, codes}
use Rattle.std.specs.Prelude.{Any as IsAny, IsTrue, ⊤}
use Rattle.std.specs.Map.{keys_of}
use Rattle.std.specs.Str.Parse.{IsNumeral, digits_value}
use Rattle.toml.specs.Data.{Data, Members, integer, string, get_member, as_integer, as_table}
use Rattle.arm2_decode.specs.declared.names.Register.{Register}
use Rattle.asm_text.specs.Registers.{register_of}
use Rattle.bus_ticks.specs.declared.profile.Class.{Class}
use Rattle.bus_ticks.specs.declared.profile.Class.TheVariants.{Any}
use Rattle.bus_ticks.specs.declared.space.TheConstants.{SPACE_END}
use Rattle.walks.specs.declared.limits.TheConstants.{MOST_ROUNDS}
use Rattle.toml_reading.specs.Documents.{are_distinct, has_only_keys, items_at}
use Rattle.toml_reading.specs.Lists.{IsListUpTo, ListUpToFault, HasRepeat}
use Rattle.bus_ticks.specs.Prices.{is_word_address}
use Rattle.toml_reading.specs.Lowest.{AtKey, AtKeyOr, IsNamed, IsNoAddress, IsNumber, IsTable}
use Rattle.toml_reading.specs.Lowest.{KeysFault, NameFault, NumberFault, TableFault, entries_at}
use Rattle.statement.specs.Stated.{IsPlaced, MayStand, ShareNoWord, Stated, Target}
use Rattle.image.specs.Labels.{Names}
use Rattle.statement.specs.Statement.{access_keys, branch_keys, loop_keys, multiply_keys, pair_at}
use Rattle.statement.specs.Statement.{named_class}
use Rattle.statement.specs.Statement.{named_kind, named_leave, named_returns, named_taken, rule_keys}
use Rattle.statement.specs.Statement.{sign_byte, statement_keys, target_keys}
use Rattle.statement.specs.StatementFaults.{statement_faults}
use Rattle.statement.specs.declared.apart.ApartStretch.{ApartStretch}
use Rattle.statement.specs.declared.faults.StatementFault.{StatementFault}
use Rattle.statement.specs.declared.faults.StatementFault.TheVariants.{WrongKind, UnknownLabel, OutOfRange}
use Rattle.statement.specs.declared.faults.StatementFault.TheVariants.{Twice}
use Rattle.statement.specs.declared.offsets.Sign.{Sign}
use Rattle.statement.specs.declared.offsets.Sign.TheVariants.{Plus, Minus}
use Rattle.statement.specs.declared.stated.BaseRule.{BaseRule}
use Rattle.statement.specs.declared.stated.Loop.{Loop}
use Rattle.statement.specs.declared.stated.Returns.TheVariants.{Assumed}
use Rattle.statement.specs.declared.stated.Taken.{Taken}
use Rattle.statement.specs.declared.stated.TargetKind.{TargetKind}
use Rattle.statement.specs.declared.stated.TargetKind.TheVariants.{Jump, Call, Return, Leave}

-- ## Values

-- the name of a label, a sign, and a number of bytes in decimal
pub record IsOffset (names : Names) (text : List ℕ) (sign : Sign) (bytes label : ℕ) : Type 0 where
  pub name : List ℕ
  pub digits : List ℕ
  pub spelled : text ≡ name ++ sign_byte sign ∷ digits
  pub decimal : IsNumeral 10 digits
  pub number : bytes ≡ digits_value 10 digits
  pub named : names name ≡ Some label

-- so many bytes past a label's address, or before it
abbrev pub IsMoved : Sign → ℕ → ℕ → ℕ → Type 0
IsMoved Plus bytes label a = label + bytes ≡ a
IsMoved Minus bytes label a = a + bytes ≡ label

-- whole words past a label, or before it
abbrev pub IsAtOffset : Names → List ℕ → ℕ → Type 0
IsAtOffset names text a =
    (sign : Sign)
    × (bytes : ℕ)
    × (label : ℕ)
    × IsOffset names text sign bytes label
    × (bytes % 4 ≡ 0)
    × IsMoved sign bytes label a

-- the address of a text: a label's own, or where it is no label, that of whole words from one
abbrev pub IsPlace : Names → List ℕ → ℕ → Type 0
IsPlace names text a = MatchOption (names text) (IsAtOffset names text a) (λ label. label ≡ a)

-- a label, or a label with a sign and a number of bytes
abbrev pub NamesLabel : Names → List ℕ → Type 0
NamesLabel names text =
    MatchOption (names text)
    ((sign : Sign) × (bytes : ℕ) × (label : ℕ) × IsOffset names text sign bytes label) (λ label. ⊤)

-- an integer is an address itself; a text gives one by a label, or by a label and whole words
abbrev pub IsAddress : Names → Data → ℕ → Type 0
IsAddress names (integer z) a = (z ≡ pos a) × IsTrue (is_word_address a)
IsAddress names (string text) a = IsPlace names text a × IsTrue (is_word_address a)
IsAddress names _ a = ⊥

-- a text that names no label, or one that names a label and no address of a word
abbrev pub TextFault : Names → List ℕ → StatementFault → Type 0
TextFault names text fault =
    ((¬ NamesLabel names text) × (fault ≡ UnknownLabel))
    ⊎ (NamesLabel names text
    × ((a : ℕ) → IsPlace names text a → ¬ IsTrue (is_word_address a))
    × (fault ≡ OutOfRange))

-- an integer out of range, a text that has a fault, or another type
abbrev pub AddressFault : Names → Data → StatementFault → Type 0
AddressFault names (integer z) fault = IsNoAddress z × (fault ≡ OutOfRange)
AddressFault names (string text) fault = TextFault names text fault
AddressFault names _ fault = fault ≡ WrongKind

-- the multiplier takes 1 to 16 cycles
abbrev pub AreFew : ℕ → Type 0
AreFew cycles = (1 ≤ cycles) × (cycles ≤ 16)

-- an integer from 1 to 16
abbrev pub AreCycles : Data → ℕ → Type 0
AreCycles d cycles = IsSomeAnd (as_integer d) (λ z. (z ≡ pos cycles) × AreFew cycles)

-- an integer out of range
abbrev pub AreNoCycles : ℤ → Type 0
AreNoCycles z = (cycles : ℕ) → z ≡ pos cycles → ¬ AreFew cycles

-- that, or another type
abbrev pub CyclesFault : Data → StatementFault → Type 0
CyclesFault d fault =
    MatchOption (as_integer d) (fault ≡ WrongKind) (λ z. AreNoCycles z × (fault ≡ OutOfRange))

-- the fault of a key that must be there: it is missing, or its value has the fault
abbrev pub RequiredFault : List ℕ → Members → (Data → StatementFault → Type 0) → StatementFault → Type 0
RequiredFault key ms Has fault = AtKeyOr key ms (fault ≡ WrongKind) (λ d. Has d fault)

module _ (names : Names) where
  -- ## A loop

  -- what is at the keys of a loop's table; a bound of at most 1,048,576
  pub record HasLoop (ms : Members) (l : Loop) : Type 0 where
    pub first : AtKey (codes "first") ms (λ d. IsAddress names d l.first)
    pub last : AtKey (codes "last") ms (λ d. IsAddress names d l.last)
    pub header : AtKey (codes "header") ms (λ d. IsAddress names d l.header)
    pub bound : AtKey (codes "bound") ms (λ d. IsNumber MOST_ROUNDS d l.bound)

  abbrev pub StatesLoop : Data → Loop → Type 0
  StatesLoop d l = IsTable loop_keys (λ ms. HasLoop ms l) d

  -- by these stretches the header lies outside first to last, or one of these two is apart and one is not
  abbrev pub IsMisplaced : List ApartStretch → Members → Type 0
  IsMisplaced apart ms =
      (first : ℕ)
      × (last : ℕ)
      × (header : ℕ)
      × AtKey (codes "first") ms (λ d. IsAddress names d first)
      × AtKey (codes "last") ms (λ d. IsAddress names d last)
      × AtKey (codes "header") ms (λ d. IsAddress names d header)
      × ¬ MayStand apart first header last

  -- a fault of one of its keys
  abbrev pub LoopKeysFault : Members → StatementFault → Type 0
  LoopKeysFault ms fault =
      RequiredFault (codes "first") ms (AddressFault names) fault
      ⊎ RequiredFault (codes "last") ms (AddressFault names) fault
      ⊎ RequiredFault (codes "header") ms (AddressFault names) fault
      ⊎ RequiredFault (codes "bound") ms (NumberFault statement_faults MOST_ROUNDS) fault

  abbrev pub LoopFault : Data → StatementFault → Type 0
  LoopFault d fault = TableFault statement_faults loop_keys LoopKeysFault d fault

  -- ## A stretch of words apart from loops

  -- a list of two addresses, of which the second is no lower than the first
  abbrev pub StatesStretch : Data → ApartStretch → Type 0
  StatesStretch d s =
      IsSomeAnd (pair_at d)
      (λ ends. IsAddress names ends.0 s.first × IsAddress names ends.1 s.last × (s.first ≤ s.last))

  -- it ends before it begins
  abbrev pub AreReversed : Data × Data → Type 0
  AreReversed ends =
      (first : ℕ) × (last : ℕ) × IsAddress names ends.0 first × IsAddress names ends.1 last × (last < first)

  -- no list of two values, the fault of one of them, or that
  abbrev pub StretchFault : Data → StatementFault → Type 0
  StretchFault d fault =
      MatchOption (pair_at d) (fault ≡ WrongKind)
      (λ ends. AddressFault names ends.0 fault ⊎ AddressFault names ends.1 fault
      ⊎ (AreReversed ends × (fault ≡ OutOfRange)))

  -- the stretches of a document, none where it says nothing
  abbrev pub AreStretches : Members → List ApartStretch → Type 0
  AreStretches ms apart = AtKeyOr (codes "apart") ms (apart ≡ []) (λ d. IsListUpTo 256 StatesStretch d apart)

  -- these are known, and by them one of the loops is misplaced
  abbrev pub HasMisplaced : Members → Type 0
  HasMisplaced ms =
      (apart : List ApartStretch)
      × AreStretches ms apart
      × IsAny (λ d. IsSomeAnd (as_table d) (IsMisplaced apart)) (entries_at (codes "loop") ms)

  -- ## A target

  -- one to 64 addresses, each once
  abbrev pub AreDestinations : Data → List ℕ → Type 0
  AreDestinations d to = IsListUpTo 64 (IsAddress names) d to × (to ≢ []) × (are_distinct to ≡ true)

  -- an empty list, the faults of a list of addresses, or an address that is there twice
  abbrev pub DestinationsFault : Data → StatementFault → Type 0
  DestinationsFault d fault =
      (IsSomeAnd (items_at d) (λ ds. ds ≡ []) × (fault ≡ WrongKind))
      ⊎ ListUpToFault statement_faults 64 (AddressFault names) d fault
      ⊎ (IsSomeAnd (items_at d) (HasRepeat (IsAddress names)) × (fault ≡ Twice))

  -- a jump and a call have destinations, and a return and a leave have none
  abbrev pub GoesTo : TargetKind → Option Data → List ℕ → Type 0
  GoesTo Jump o to = IsSomeAnd o (λ d. AreDestinations d to)
  GoesTo Call o to = IsSomeAnd o (λ d. AreDestinations d to)
  GoesTo Return o to = (o ≡ None) × (to ≡ [])
  GoesTo Leave o to = (o ≡ None) × (to ≡ [])

  -- no list where there must be one, its faults, or a value where there may be none
  abbrev pub ToFault : TargetKind → Option Data → StatementFault → Type 0
  ToFault Jump o fault = MatchOption o (fault ≡ WrongKind) (λ d. DestinationsFault d fault)
  ToFault Call o fault = MatchOption o (fault ≡ WrongKind) (λ d. DestinationsFault d fault)
  ToFault Return o fault = (o ≢ None) × (fault ≡ WrongKind)
  ToFault Leave o fault = (o ≢ None) × (fault ≡ WrongKind)

  -- the address of the word, and what it is stated to do
  pub record HasTarget (ms : Members) (t : ℕ × Target) : Type 0 where
    pub address : AtKey (codes "at") ms (λ d. IsAddress names d t.0)
    pub kind : AtKey (codes "kind") ms (λ d. IsNamed named_kind d t.1.kind)
    pub destinations : GoesTo t.1.kind (get_member (codes "to") ms) t.1.to

  abbrev pub StatesTarget : Data → ℕ × Target → Type 0
  StatesTarget d t = IsTable target_keys (λ ms. HasTarget ms t) d

  -- where the kind is known, `to` is judged by it
  abbrev pub TargetKeysFault : Members → StatementFault → Type 0
  TargetKeysFault ms fault =
      RequiredFault (codes "at") ms (AddressFault names) fault
      ⊎ RequiredFault (codes "kind") ms (NameFault statement_faults named_kind) fault
      ⊎ ((kind : TargetKind)
      × AtKey (codes "kind") ms (λ d. IsNamed named_kind d kind)
      × ToFault kind (get_member (codes "to") ms) fault)

  abbrev pub TargetFault : Data → StatementFault → Type 0
  TargetFault d fault = TableFault statement_faults target_keys TargetKeysFault d fault

  -- ## An access

  -- the address of the word, and the class of the addresses that it transfers
  pub record HasAccess (ms : Members) (a : ℕ × Class) : Type 0 where
    pub address : AtKey (codes "at") ms (λ d. IsAddress names d a.0)
    pub class : AtKey (codes "class") ms (λ d. IsNamed named_class d a.1)

  abbrev pub StatesAccess : Data → ℕ × Class → Type 0
  StatesAccess d a = IsTable access_keys (λ ms. HasAccess ms a) d

  abbrev pub AccessKeysFault : Members → StatementFault → Type 0
  AccessKeysFault ms fault =
      RequiredFault (codes "at") ms (AddressFault names) fault
      ⊎ RequiredFault (codes "class") ms (NameFault statement_faults named_class) fault

  abbrev pub AccessFault : Data → StatementFault → Type 0
  AccessFault d fault = TableFault statement_faults access_keys AccessKeysFault d fault

  -- ## A rule for a base register

  -- the part of memory that a rule is for: all of it where nothing is said
  abbrev pub IsFirst : Members → ℕ → Type 0
  IsFirst ms a = AtKeyOr (codes "first") ms (a ≡ 0) (λ d. IsAddress names d a)

  abbrev pub IsLast : Members → ℕ → Type 0
  IsLast ms a = AtKeyOr (codes "last") ms (a ≡ SPACE_END - 4) (λ d. IsAddress names d a)

  -- the register by its name, the class of the addresses that all transfers by it are of, and that part
  pub record HasRule (ms : Members) (r : BaseRule) : Type 0 where
    pub register : AtKey (codes "register") ms (λ d. IsNamed register_of d r.register)
    pub class : AtKey (codes "class") ms (λ d. IsNamed named_class d r.class)
    pub first : IsFirst ms r.first
    pub last : IsLast ms r.last

  abbrev pub StatesRule : Data → BaseRule → Type 0
  StatesRule d r = IsTable rule_keys (λ ms. HasRule ms r × (r.first ≤ r.last)) d

  -- the part ends before it begins
  abbrev pub IsReversed : Members → Type 0
  IsReversed ms = (first : ℕ) × (last : ℕ) × IsFirst ms first × IsLast ms last × (last < first)

  -- a fault of one of its keys, or that
  abbrev pub RuleKeysFault : Members → StatementFault → Type 0
  RuleKeysFault ms fault =
      RequiredFault (codes "register") ms (NameFault statement_faults register_of) fault
      ⊎ RequiredFault (codes "class") ms (NameFault statement_faults named_class) fault
      ⊎ AtKey (codes "first") ms (λ d. AddressFault names d fault)
      ⊎ AtKey (codes "last") ms (λ d. AddressFault names d fault)
      ⊎ (IsReversed ms × (fault ≡ OutOfRange))

  abbrev pub RuleFault : Data → StatementFault → Type 0
  RuleFault d fault = TableFault statement_faults rule_keys RuleKeysFault d fault

  -- ## A multiply

  -- the address of the word, and the most cycles that it takes
  pub record HasMultiply (ms : Members) (m : ℕ × ℕ) : Type 0 where
    pub address : AtKey (codes "at") ms (λ d. IsAddress names d m.0)
    pub cycles : AtKey (codes "cycles") ms (λ d. AreCycles d m.1)

  abbrev pub StatesMultiply : Data → ℕ × ℕ → Type 0
  StatesMultiply d m = IsTable multiply_keys (λ ms. HasMultiply ms m) d

  abbrev pub MultiplyKeysFault : Members → StatementFault → Type 0
  MultiplyKeysFault ms fault =
      RequiredFault (codes "at") ms (AddressFault names) fault
      ⊎ RequiredFault (codes "cycles") ms CyclesFault fault

  abbrev pub MultiplyFault : Data → StatementFault → Type 0
  MultiplyFault d fault = TableFault statement_faults multiply_keys MultiplyKeysFault d fault

  -- ## A branch

  -- the address of the word, and which way it goes
  pub record HasBranch (ms : Members) (b : ℕ × Taken) : Type 0 where
    pub address : AtKey (codes "at") ms (λ d. IsAddress names d b.0)
    pub taken : AtKey (codes "taken") ms (λ d. IsNamed named_taken d b.1)

  abbrev pub StatesBranch : Data → ℕ × Taken → Type 0
  StatesBranch d b = IsTable branch_keys (λ ms. HasBranch ms b) d

  abbrev pub BranchKeysFault : Members → StatementFault → Type 0
  BranchKeysFault ms fault =
      RequiredFault (codes "at") ms (AddressFault names) fault
      ⊎ RequiredFault (codes "taken") ms (NameFault statement_faults named_taken) fault

  abbrev pub BranchFault : Data → StatementFault → Type 0
  BranchFault d fault = TableFault statement_faults branch_keys BranchKeysFault d fault

  -- ## The statement

  -- what is at the document's keys. The class to leave to is any where it is missing, a word that writes R15
  -- and has no target returns where nothing is said, a list that is missing has no entries, and the loops'
  -- words lie where they may
  pub record HasParts (ms : Members) (st : Stated) : Type 0 where
    pub entry : AtKey (codes "entry") ms (λ d. IsAddress names d st.entry)
    pub leave : AtKeyOr (codes "leave") ms (st.leave ≡ Any) (λ d. IsNamed named_leave d st.leave)
    pub returns : AtKeyOr (codes "returns") ms (st.returns ≡ Assumed)
        (λ d. IsNamed named_returns d st.returns)
    pub loops : AtKeyOr (codes "loop") ms (st.loops.list ≡ [])
        (λ d. IsListUpTo 256 StatesLoop d st.loops.list)
    pub apart : AreStretches ms st.loops.apart
    pub placed : All (IsPlaced st.loops.apart) st.loops.list
    pub targets : AtKeyOr (codes "target") ms (st.targets ≡ [])
        (λ d. IsListUpTo 1024 StatesTarget d st.targets)
    pub accesses : AtKeyOr (codes "access") ms (st.accesses ≡ [])
        (λ d. IsListUpTo 4096 StatesAccess d st.accesses)
    pub rules : AtKeyOr (codes "base") ms (st.rules ≡ []) (λ d. IsListUpTo 256 StatesRule d st.rules)
    pub multiplies : AtKeyOr (codes "multiply") ms (st.multiplies ≡ [])
        (λ d. IsListUpTo 1024 StatesMultiply d st.multiplies)
    pub branches : AtKeyOr (codes "branch") ms (st.branches ≡ [])
        (λ d. IsListUpTo 1024 StatesBranch d st.branches)

  -- one entry at most of each of these lists for an address, and one rule for a register there
  pub record IsSingle (st : Stated) : Type 0 where
    pub targets : are_distinct (keys_of st.targets) ≡ true
    pub accesses : are_distinct (keys_of st.accesses) ≡ true
    pub rules : AllPairs ShareNoWord st.rules
    pub multiplies : are_distinct (keys_of st.multiplies) ≡ true
    pub branches : are_distinct (keys_of st.branches) ≡ true

  -- the statement that a document states: no other keys, and what is at these
  pub record States (ms : Members) (st : Stated) : Type 0 where
    pub known : has_only_keys statement_keys ms ≡ true
    pub parts : HasParts ms st
    pub single : IsSingle st

  -- a target, an access, a multiply or a branch of the word at that address
  abbrev pub IsAt : Data → ℕ → Type 0
  IsAt d a = IsSomeAnd (as_table d) (λ ms. AtKey (codes "at") ms (λ e. IsAddress names e a))

  -- two entries of the list at that key are of one address
  abbrev pub HasTwo : List ℕ → Members → Type 0
  HasTwo key ms = AtKey key ms (λ d. IsSomeAnd (items_at d) (HasRepeat IsAt))

  -- a rule for that register, and for the word at that address among others
  abbrev pub IsRuleAt : Register → Data → ℕ → Type 0
  IsRuleAt base d a =
      IsSomeAnd (as_table d)
      (λ ms. AtKey (codes "register") ms (λ e. IsNamed register_of e base)
      × ((first : ℕ) × (last : ℕ) × IsFirst ms first × IsLast ms last × (first ≤ a) × (a ≤ last)))

  -- two rules are for one register at one address
  abbrev pub HasTwoRules : Members → Type 0
  HasTwoRules ms =
      (base : Register) × AtKey (codes "base") ms (λ d. IsSomeAnd (items_at d) (HasRepeat (IsRuleAt base)))

  abbrev pub IsTwice : Members → Type 0
  IsTwice ms =
      HasTwo (codes "target") ms ⊎ HasTwo (codes "access") ms ⊎ HasTwoRules ms ⊎ HasTwo (codes "multiply") ms
      ⊎ HasTwo (codes "branch") ms

  -- the faults of its keys, a loop that is misplaced, and two entries where there may be one
  abbrev pub PartsFault : Members → StatementFault → Type 0
  PartsFault ms fault =
      RequiredFault (codes "entry") ms (AddressFault names) fault
      ⊎ AtKey (codes "leave") ms (λ d. NameFault statement_faults named_leave d fault)
      ⊎ AtKey (codes "returns") ms (λ d. NameFault statement_faults named_returns d fault)
      ⊎ AtKey (codes "loop") ms (λ d. ListUpToFault statement_faults 256 LoopFault d fault)
      ⊎ AtKey (codes "apart") ms (λ d. ListUpToFault statement_faults 256 StretchFault d fault)
      ⊎ (HasMisplaced ms × (fault ≡ OutOfRange))
      ⊎ AtKey (codes "target") ms (λ d. ListUpToFault statement_faults 1024 TargetFault d fault)
      ⊎ AtKey (codes "access") ms (λ d. ListUpToFault statement_faults 4096 AccessFault d fault)
      ⊎ AtKey (codes "base") ms (λ d. ListUpToFault statement_faults 256 RuleFault d fault)
      ⊎ AtKey (codes "multiply") ms (λ d. ListUpToFault statement_faults 1024 MultiplyFault d fault)
      ⊎ AtKey (codes "branch") ms (λ d. ListUpToFault statement_faults 1024 BranchFault d fault)
      ⊎ (IsTwice ms × (fault ≡ Twice))

  -- the faults of a document: those, and a key that it may not have
  abbrev pub HasFault : Members → StatementFault → Type 0
  HasFault ms fault = KeysFault statement_faults statement_keys PartsFault ms fault
