-- Which statement a text states, and its faults, of which the lowest over the whole text is answered (over
-- the documents of TOML).
use Rattle.std.specs.Prelude.{◌&&◌, ◌==◌, ◌+◌, ◌-◌, ◌%◌, ℕ, ℤ, pos, Bool, List, [], ◌∷◌, length, take, drop}
use Rattle.std.specs.Prelude.{negsuc, not, true, slice_index, codes, is_none, Option, Some, None, Ok, Err}
use Rattle.std.specs.Prelude.{nat_le}
use Rattle.std.specs.Prelude.{nat_lt, max, min}
use Rattle.std.specs.Prelude.{if◌then◌else◌}
use Rattle.std.specs.Char.{is_ascii_digit}
use Rattle.std.specs.List.{list_all, list_any}
use Rattle.std.specs.Map.{keys_of}
use Rattle.std.specs.Option.{option_and_then}
use Rattle.std.specs.Str.{bytes_eq}
use Rattle.std.specs.Str.Parse.{digits_value}
use Rattle.memchr.specs.Find.{is_byte2, last_of, places}
use Rattle.toml.specs.Data.{Data, Members, get_member, as_integer, as_str, as_table}
use Rattle.arm2_decode.specs.Names.{is_same}
use Rattle.arm2_decode.specs.declared.names.Register.{Register}
use Rattle.asm_text.specs.Registers.{register_of}
use Rattle.bus_ticks.specs.declared.profile.Class.{Class}
use Rattle.bus_ticks.specs.declared.profile.Class.TheVariants.{Any, Ram, Rom, Io}
use Rattle.bus_ticks.specs.declared.profile.Class.TheVariants.{Slow, Medium, Fast, Synchronous}
use Rattle.bus_ticks.specs.declared.space.TheConstants.{SPACE_END}
use Rattle.image.specs.Labels.{Names}
use Rattle.walks.specs.declared.limits.TheConstants.{MOST_ROUNDS}
use Rattle.toml_reading.specs.Documents.{IsAnswer, are_distinct, in_space, items_at, listed_up_to, name_at}
use Rattle.toml_reading.specs.Documents.{number_in, of_keys, once, tables_up_to}
use Rattle.toml_reading.specs.Readings.{Reading, and_then, pair, optional, required, reading_map}
use Rattle.statement.specs.Stated.{Stated, StatedLoops, Target, is_placed}
use Rattle.statement.specs.StatementFaults.{statement_faults}
use Rattle.statement.specs.declared.apart.ApartStretch.{ApartStretch}
use Rattle.statement.specs.declared.faults.StatementFault.{StatementFault}
use Rattle.statement.specs.declared.faults.StatementFault.TheVariants.{NotToml, WrongKind, UnknownLabel}
use Rattle.statement.specs.declared.faults.StatementFault.TheVariants.{OutOfRange, Twice}
use Rattle.statement.specs.declared.offsets.Sign.{Sign}
use Rattle.statement.specs.declared.offsets.Sign.TheVariants.{Plus, Minus}
use Rattle.statement.specs.declared.stated.BaseRule.{BaseRule}
use Rattle.statement.specs.declared.stated.Loop.{Loop}
use Rattle.statement.specs.declared.stated.Returns.{Returns}
use Rattle.statement.specs.declared.stated.Returns.TheVariants as returns
use Rattle.statement.specs.declared.stated.Taken.{Taken}
use Rattle.statement.specs.declared.stated.Taken.TheVariants as taken
use Rattle.statement.specs.declared.stated.TargetKind.{TargetKind}
use Rattle.statement.specs.declared.stated.TargetKind.TheVariants.{Jump, Call, Return, Leave}

abbrev pub Read : Type 0 → Type 0
Read A = Reading StatementFault A

-- ## The keys of the statement and of the tables of its lists

abbrev pub statement_keys : List (List ℕ)
statement_keys =
    codes "entry" ∷ codes "leave" ∷ codes "returns" ∷ codes "apart" ∷ codes "loop" ∷ codes "target"
    ∷ codes "access" ∷ codes "base" ∷ codes "multiply" ∷ codes "branch" ∷ []

abbrev pub loop_keys : List (List ℕ)
loop_keys = codes "header" ∷ codes "first" ∷ codes "last" ∷ codes "bound" ∷ []

abbrev pub target_keys : List (List ℕ)
target_keys = codes "at" ∷ codes "kind" ∷ codes "to" ∷ []

abbrev pub access_keys : List (List ℕ)
access_keys = codes "at" ∷ codes "class" ∷ []

abbrev pub rule_keys : List (List ℕ)
rule_keys = codes "register" ∷ codes "class" ∷ codes "first" ∷ codes "last" ∷ []

abbrev pub multiply_keys : List (List ℕ)
multiply_keys = codes "at" ∷ codes "cycles" ∷ []

abbrev pub branch_keys : List (List ℕ)
branch_keys = codes "at" ∷ codes "taken" ∷ []

-- ## Words

abbrev pub class_name : Class → List ℕ
class_name Any = codes "any"
class_name Ram = codes "ram"
class_name Rom = codes "rom"
class_name Io = codes "io"
class_name Slow = codes "slow"
class_name Medium = codes "medium"
class_name Fast = codes "fast"
class_name Synchronous = codes "synchronous"

-- the class of the addresses to which a handler leaves, by its name: no speed
abbrev pub named_leave : List ℕ → Option Class
named_leave w =
    if bytes_eq w (class_name Any) then Some Any
    else (if bytes_eq w (class_name Ram) then Some Ram
    else (if bytes_eq w (class_name Rom) then Some Rom
    else (if bytes_eq w (class_name Io) then Some Io else None)))

-- the class of the addresses that a word loads or stores, by its name
abbrev pub named_class : List ℕ → Option Class
named_class w =
    if bytes_eq w (class_name Slow) then Some Slow
    else (if bytes_eq w (class_name Medium) then Some Medium
    else (if bytes_eq w (class_name Fast) then Some Fast
    else (if bytes_eq w (class_name Synchronous) then Some Synchronous else named_leave w)))

abbrev pub named_kind : List ℕ → Option TargetKind
named_kind w = if bytes_eq w (codes "jump") then Some Jump else (if bytes_eq w (codes "call") then Some Call
    else
    (if bytes_eq w (codes "return") then Some Return
    else (if bytes_eq w (codes "leave") then Some Leave else None)))

-- whether a word that writes R15 and has no stated target returns, or must have one
abbrev pub named_returns : List ℕ → Option Returns
named_returns w = if bytes_eq w (codes "assumed") then Some returns.Assumed
    else (if bytes_eq w (codes "stated") then Some returns.Stated else None)

-- which way is stated of a word that has a condition
abbrev pub named_taken : List ℕ → Option Taken
named_taken w = if bytes_eq w (codes "always") then Some taken.Always
    else (if bytes_eq w (codes "never") then Some taken.Never else None)

-- the class to leave to that a value names, and the class of a transfer
abbrev pub leave_named_at : Data → Read Class
leave_named_at d = name_at statement_faults named_leave d

abbrev pub class_named_at : Data → Read Class
class_named_at d = name_at statement_faults named_class d

abbrev pub returns_named_at : Data → Read Returns
returns_named_at d = name_at statement_faults named_returns d

abbrev pub kind_at : Data → Read TargetKind
kind_at d = name_at statement_faults named_kind d

abbrev pub register_named_at : Data → Read Register
register_named_at d = name_at statement_faults register_of d

abbrev pub taken_named_at : Data → Read Taken
taken_named_at d = name_at statement_faults named_taken d

-- ## Cycles

-- a number from 1 to 16
abbrev pub cycles_of : ℤ → Read ℕ
cycles_of (pos n) = if nat_le 1 n && nat_le n 16 then Ok n else Err OutOfRange
cycles_of (negsuc n) = Err OutOfRange

abbrev pub cycles_named_at : Data → Read ℕ
cycles_named_at d = required statement_faults (as_integer d) cycles_of

-- ## Addresses

-- `+` and `-`
abbrev pub sign_byte : Sign → ℕ
sign_byte Plus = 43
sign_byte Minus = 45

-- the index of the last sign in a text
abbrev pub last_sign : List ℕ → Option ℕ
last_sign text = last_of (places (is_byte2 (sign_byte Plus) (sign_byte Minus)) text)

abbrev pub sign_at : List ℕ → ℕ → Sign
sign_at text at = if slice_index text at == sign_byte Plus then Plus else Minus

-- one decimal digit or more
abbrev pub is_number : List ℕ → Bool
is_number digits = nat_lt 0 (length digits) && list_all is_ascii_digit digits

-- the address so many bytes past a label, or before it
abbrev pub moved : Sign → ℕ → ℕ → Read ℕ
moved Plus bytes label = in_space statement_faults (pos (label + bytes))
moved Minus bytes label =
    if nat_le bytes label then in_space statement_faults (pos (label - bytes)) else Err OutOfRange

-- by whole words
abbrev pub by_words : Sign → ℕ → ℕ → Read ℕ
by_words sign bytes label = if bytes % 4 == 0 then moved sign bytes label else Err OutOfRange

abbrev pub from_label : Sign → ℕ → Option ℕ → Read ℕ
from_label sign bytes None = Err UnknownLabel
from_label sign bytes (Some label) = by_words sign bytes label

-- a label's name before the sign at an index, and a number of bytes after it
abbrev pub at_offset : Names → List ℕ → Option ℕ → Read ℕ
at_offset names text None = Err UnknownLabel
at_offset names text (Some at) =
    if is_number (drop (at + 1) text)
    then from_label (sign_at text at) (digits_value 10 (drop (at + 1) text)) (names (take at text))
    else Err UnknownLabel

-- a label's address, where the text is a label
abbrev pub label_or_offset : Names → List ℕ → Option ℕ → Read ℕ
label_or_offset names text (Some label) = in_space statement_faults (pos label)
label_or_offset names text None = at_offset names text (last_sign text)

abbrev pub text_address : Names → List ℕ → Read ℕ
text_address names text = label_or_offset names text (names text)

-- an integer, or a text
abbrev pub number_or_text : Names → Option ℤ → Option (List ℕ) → Read ℕ
number_or_text names (Some z) text = in_space statement_faults z
number_or_text names None (Some text) = text_address names text
number_or_text names None None = Err WrongKind

abbrev pub address_at : Names → Data → Read ℕ
address_at names d = number_or_text names (as_integer d) (as_str d)

-- ## Parts without addresses

-- the loop of its first and last word, its header and its bound
abbrev pub loop_of : (ℕ × ℕ) × (ℕ × ℕ) → Loop
loop_of p = record { header = p.1.0; first = p.0.0; last = p.0.1; bound = p.1.1 }

-- loops whose words may be a loop's, by what is apart from them
abbrev pub placed_loops : List Loop × List ApartStretch → Read StatedLoops
placed_loops p =
    if list_all (is_placed p.1) p.0 then Ok (record { list = p.0; apart = p.1 }) else Err OutOfRange

-- a stretch that does not end before it begins
abbrev pub placed_stretch : ℕ × ℕ → Read ApartStretch
placed_stretch p = if nat_le p.0 p.1 then Ok (record { first = p.0; last = p.1 }) else Err OutOfRange

-- the values of a list of two
abbrev pub two_values : List Data → Option (Data × Data)
two_values (first ∷ last ∷ []) = Some (first, last)
two_values _ = None

abbrev pub pair_at : Data → Option (Data × Data)
pair_at d = option_and_then two_values (items_at d)

-- a rule that does not end before it begins
abbrev pub placed_rule : (Register × Class) × (ℕ × ℕ) → Read BaseRule
placed_rule p =
    if nat_le p.1.0 p.1.1
    then Ok (record { register = p.0.0; first = p.1.0; last = p.1.1; class = p.0.1 }) else Err OutOfRange

abbrev pub kind_in : Members → Read TargetKind
kind_in ms = required statement_faults (get_member (codes "kind") ms) kind_at

abbrev pub class_in : Members → Read Class
class_in ms = required statement_faults (get_member (codes "class") ms) class_named_at

abbrev pub register_in : Members → Read Register
register_in ms = required statement_faults (get_member (codes "register") ms) register_named_at

abbrev pub cycles_in : Members → Read ℕ
cycles_in ms = required statement_faults (get_member (codes "cycles") ms) cycles_named_at

abbrev pub taken_in : Members → Read Taken
taken_in ms = required statement_faults (get_member (codes "taken") ms) taken_named_at

-- the class to leave to: any where the key is missing
abbrev pub leave_in : Members → Read Class
leave_in ms = optional Any (get_member (codes "leave") ms) leave_named_at

-- what such a word does: it returns where the key is missing
abbrev pub returns_in : Members → Read Returns
returns_in ms = optional returns.Assumed (get_member (codes "returns") ms) returns_named_at

-- how the handler leaves
abbrev pub leaving_in : Members → Read (Class × Returns)
leaving_in ms = pair statement_faults (leave_in ms) (returns_in ms)

-- the entry and how the handler leaves, and the loops with what is apart from them
abbrev pub Frame : Type 0
Frame = (ℕ × (Class × Returns)) × StatedLoops

-- the targets and the accesses
abbrev pub Words : Type 0
Words = List (ℕ × Target) × List (ℕ × Class)

-- the multiplies and the branches
abbrev pub Limits : Type 0
Limits = List (ℕ × ℕ) × List (ℕ × Taken)

abbrev pub Parts : Type 0
Parts = (Frame × Words) × (List BaseRule × Limits)

-- what the parts state
abbrev pub stated_by : Parts → Stated
stated_by p =
    record {
      entry = p.0.0.0.0;
      leave = p.0.0.0.1.0;
      returns = p.0.0.0.1.1;
      loops = p.0.0.1;
      targets = p.0.1.0;
      accesses = p.0.1.1;
      rules = p.1.0;
      multiplies = p.1.1.0;
      branches = p.1.1.1;
    }

-- the rules are for one register, and share an address
abbrev pub overlap : BaseRule → BaseRule → Bool
overlap r q = is_same r.register q.register && nat_le (max r.first q.first) (min r.last q.last)

-- no two of the rules do
abbrev pub are_disjoint : List BaseRule → Bool
are_disjoint [] = true
are_disjoint (r ∷ rules) = not (list_any (overlap r) rules) && are_disjoint rules

-- one entry at most of each list for an address, and one rule for a register there
abbrev pub is_single : Stated → Bool
is_single st =
    (are_distinct (keys_of st.targets) && are_distinct (keys_of st.accesses))
    && (are_disjoint st.rules && (are_distinct (keys_of st.multiplies) && are_distinct (keys_of st.branches)))

abbrev pub stated_once : Parts → Read Stated
stated_once p = if is_single (stated_by p) then Ok (stated_by p) else Err Twice

-- ## Tables

module _ (names : Names) where
  abbrev pub address_in : List ℕ → Members → Read ℕ
  address_in key ms = required statement_faults (get_member key ms) (address_at names)

  -- the same where the key may be missing
  abbrev pub address_or : List ℕ → ℕ → Members → Read ℕ
  address_or key missing ms = optional missing (get_member key ms) (address_at names)

  -- ## A loop

  -- first and last, header and bound: at most 1,048,576 rounds
  abbrev pub loop_parts : Members → Read ((ℕ × ℕ) × (ℕ × ℕ))
  loop_parts ms =
      pair
      statement_faults
      (pair statement_faults (address_in (codes "first") ms) (address_in (codes "last") ms))
      (pair statement_faults (address_in (codes "header") ms)
      (number_in statement_faults (codes "bound") MOST_ROUNDS ms))

  abbrev pub loop_in : Members → Read Loop
  loop_in ms = of_keys statement_faults loop_keys ms (reading_map loop_of (loop_parts ms))

  abbrev pub loop_at : Data → Read Loop
  loop_at d = required statement_faults (as_table d) loop_in

  -- ## A stretch of words apart from loops

  -- its first and last address
  abbrev pub apart_of : Data × Data → Read ApartStretch
  apart_of ends =
      and_then (pair statement_faults (address_at names ends.0) (address_at names ends.1)) placed_stretch

  abbrev pub apart_at : Data → Read ApartStretch
  apart_at d = required statement_faults (pair_at d) apart_of

  -- ## A target

  -- one to 64 destinations, each once
  abbrev pub some_destinations : List Data → Read (List ℕ)
  some_destinations ds =
      if length ds == 0 then Err WrongKind
      else and_then (listed_up_to statement_faults 64 (address_at names) ds) (once Twice (λ ns. ns))

  abbrev pub destinations_at : Data → Read (List ℕ)
  destinations_at d = required statement_faults (items_at d) some_destinations

  -- a jump and a call have destinations, and a return and a leave have none
  abbrev pub destinations : Option Data → TargetKind → Read (List ℕ)
  destinations to Jump = required statement_faults to destinations_at
  destinations to Call = required statement_faults to destinations_at
  destinations to Return = if is_none to then Ok [] else Err WrongKind
  destinations to Leave = if is_none to then Ok [] else Err WrongKind

  abbrev pub target_of_kind : Option Data → TargetKind → Read Target
  target_of_kind to kind =
      reading_map (λ addresses. record { kind = kind; to = addresses }) (destinations to kind)

  abbrev pub target_in : Members → Read (ℕ × Target)
  target_in ms =
      of_keys
      statement_faults
      target_keys
      ms
      (pair statement_faults (address_in (codes "at") ms)
      (and_then (kind_in ms) (target_of_kind (get_member (codes "to") ms))))

  abbrev pub target_at : Data → Read (ℕ × Target)
  target_at d = required statement_faults (as_table d) target_in

  -- ## An access

  abbrev pub access_in : Members → Read (ℕ × Class)
  access_in ms =
      of_keys statement_faults access_keys ms
      (pair statement_faults (address_in (codes "at") ms) (class_in ms))

  abbrev pub access_at : Data → Read (ℕ × Class)
  access_at d = required statement_faults (as_table d) access_in

  -- ## A rule for a base register

  -- from the first address to the last: of the whole memory where they are missing
  abbrev pub first_in : Members → Read ℕ
  first_in ms = address_or (codes "first") 0 ms

  abbrev pub last_in : Members → Read ℕ
  last_in ms = address_or (codes "last") (SPACE_END - 4) ms

  abbrev pub rule_parts : Members → Read ((Register × Class) × (ℕ × ℕ))
  rule_parts ms =
      pair statement_faults (pair statement_faults (register_in ms) (class_in ms))
      (pair statement_faults (first_in ms) (last_in ms))

  abbrev pub rule_in : Members → Read BaseRule
  rule_in ms = of_keys statement_faults rule_keys ms (and_then (rule_parts ms) placed_rule)

  abbrev pub rule_at : Data → Read BaseRule
  rule_at d = required statement_faults (as_table d) rule_in

  -- ## A multiply and a branch

  abbrev pub multiply_in : Members → Read (ℕ × ℕ)
  multiply_in ms =
      of_keys statement_faults multiply_keys ms
      (pair statement_faults (address_in (codes "at") ms) (cycles_in ms))

  abbrev pub multiply_at : Data → Read (ℕ × ℕ)
  multiply_at d = required statement_faults (as_table d) multiply_in

  abbrev pub branch_in : Members → Read (ℕ × Taken)
  branch_in ms =
      of_keys statement_faults branch_keys ms
      (pair statement_faults (address_in (codes "at") ms) (taken_in ms))

  abbrev pub branch_at : Data → Read (ℕ × Taken)
  branch_at d = required statement_faults (as_table d) branch_in

  -- ## The statement

  abbrev pub ends_in : Members → Read (ℕ × (Class × Returns))
  ends_in ms = pair statement_faults (address_in (codes "entry") ms) (leaving_in ms)

  abbrev pub loops_in : Members → Read (List Loop)
  loops_in ms = tables_up_to statement_faults 256 loop_at (get_member (codes "loop") ms)

  abbrev pub apart_in : Members → Read (List ApartStretch)
  apart_in ms = tables_up_to statement_faults 256 apart_at (get_member (codes "apart") ms)

  -- the loops and what is apart from them, by which their words are judged
  abbrev pub stated_loops_in : Members → Read StatedLoops
  stated_loops_in ms = and_then (pair statement_faults (loops_in ms) (apart_in ms)) placed_loops

  abbrev pub targets_in : Members → Read (List (ℕ × Target))
  targets_in ms = tables_up_to statement_faults 1024 target_at (get_member (codes "target") ms)

  abbrev pub accesses_in : Members → Read (List (ℕ × Class))
  accesses_in ms = tables_up_to statement_faults 4096 access_at (get_member (codes "access") ms)

  abbrev pub rules_in : Members → Read (List BaseRule)
  rules_in ms = tables_up_to statement_faults 256 rule_at (get_member (codes "base") ms)

  abbrev pub multiplies_in : Members → Read (List (ℕ × ℕ))
  multiplies_in ms = tables_up_to statement_faults 1024 multiply_at (get_member (codes "multiply") ms)

  abbrev pub branches_in : Members → Read (List (ℕ × Taken))
  branches_in ms = tables_up_to statement_faults 1024 branch_at (get_member (codes "branch") ms)

  abbrev pub frame_in : Members → Read Frame
  frame_in ms = pair statement_faults (ends_in ms) (stated_loops_in ms)

  abbrev pub words_in : Members → Read Words
  words_in ms = pair statement_faults (targets_in ms) (accesses_in ms)

  abbrev pub limits_in : Members → Read Limits
  limits_in ms = pair statement_faults (multiplies_in ms) (branches_in ms)

  abbrev pub rules_and_limits : Members → Read (List BaseRule × Limits)
  rules_and_limits ms = pair statement_faults (rules_in ms) (limits_in ms)

  abbrev pub parts_of : Members → Read Parts
  parts_of ms =
      pair statement_faults (pair statement_faults (frame_in ms) (words_in ms)) (rules_and_limits ms)

  abbrev pub statement_of : Members → Read Stated
  statement_of ms = of_keys statement_faults statement_keys ms (and_then (parts_of ms) stated_once)

-- the answer to a text, but for lack of memory
abbrev pub IsStatement : List ℕ → Names → Read Stated → Type 0
IsStatement text names answer = IsAnswer NotToml (statement_of names) text answer
