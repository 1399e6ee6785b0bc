-- The tests of spots by what is read there, which clauses of private calls speak of.
use Rattle.std.specs.Prelude.{◌≡◌, ◌&&◌, ◌||◌, ◌==◌, not, ℕ, Bool, true, false, List, [], ◌∷◌, ◌++◌}
use Rattle.std.specs.Prelude.{codes, if◌then◌else◌, length, nat_lt, ⊤}
use Rattle.std.specs.Prelude.{Option, Some, None, Ok, Err, is_none, is_some, map, unwrap_or, option_map, Vec}
use Rattle.std.specs.declared.alloc.Global.{Global}
use Rattle.std.specs.BTreeSet.{BTreeSet, contains}
use Rattle.std.specs.List.{list_any, slice_get}
use Rattle.std.specs.Option.{option_and_then}
use Rattle.std.specs.Ordering.{nat_cmp}
use Rattle.std.specs.Result.{result_ok}
use Rattle.toml.specs.Data.{Data, Members, as_table, get_member}
use Rattle.toml_reading.specs.Documents.{is_one_of, items_at, number_in}
use Rattle.toml_reading.specs.Lowest.{entries_at}
use Rattle.arm2_decode.specs.declared.names.Register.{Register}
use Rattle.image.specs.Labels.{Names}
use Rattle.walks.specs.declared.limits.TheConstants.{MOST_ROUNDS}
use Rattle.statement.specs.Places.{end_of, has_destinations, key_name, keys_of, list_key, most_of}
use Rattle.statement.specs.Stated.{may_stand}
use Rattle.statement.specs.Statement.{Read, address_at, address_in, apart_in, class_in, cycles_in, pair_at}
use Rattle.statement.specs.Statement.{first_in, kind_in, last_in, leave_in, register_in}
use Rattle.statement.specs.Statement.{returns_in, taken_in}
use Rattle.statement.specs.Stretches.{is_within, meets}
use Rattle.statement.specs.StatementFaults.{number_of, statement_faults}
use Rattle.statement.specs.declared.apart.ApartStretch.{ApartStretch}
use Rattle.statement.specs.declared.faults.StatementFault.{StatementFault}
use Rattle.statement.specs.declared.faults.StatementFault.TheVariants.{UnknownKey, WrongKind, OutOfRange}
use Rattle.statement.specs.declared.faults.StatementFault.TheVariants.{Twice}
use Rattle.statement.specs.declared.spots.Key.{Key}
use Rattle.statement.specs.declared.spots.Key.TheVariants.{Entry, Leave, Returns, Header, First, Last, Bound}
use Rattle.statement.specs.declared.spots.Key.TheVariants.{At, Kind, To, Class, Register as Base, Cycles}
use Rattle.statement.specs.declared.spots.Key.TheVariants.{Taken}
use Rattle.statement.specs.declared.spots.Part.{Part}
use Rattle.statement.specs.declared.spots.Part.TheVariants.{Unknown, Value, Missing}
use Rattle.statement.specs.declared.spots.Spot.{Spot}
use Rattle.statement.specs.declared.spots.Spot.TheVariants as spot
use Rattle.statement.specs.declared.spots.TableList.{TableList}
use Rattle.statement.specs.declared.spots.TableList.TheVariants.{Loops, Targets, Accesses, Rules, Multiplies}
use Rattle.statement.specs.declared.spots.TableList.TheVariants.{Branches}
use Rattle.statement.specs.declared.stretches.Stretch.{Stretch}

abbrev pub is_same : StatementFault → StatementFault → Bool
is_same found fault = number_of found == number_of fault

-- what is read is that fault
abbrev pub gives : {A : Type 0} → Read A → StatementFault → Bool
gives (Ok a) fault = false
gives (Err found) fault = is_same found fault

-- ## Numbers that were there

abbrev pub is_number : ℕ → Option ℕ → Bool
is_number a None = false
is_number a (Some b) = b == a

-- one of the numbers is that one
abbrev pub is_among : List (Option ℕ) → ℕ → Bool
is_among ns a = list_any (is_number a) ns

-- the number, if there is one, is one of those before
abbrev pub was_there : (before : List (Option ℕ)) → Option ℕ → Bool
was_there before None = false
was_there before (Some a) = is_among before a

-- of each value what the test says of those before it and of it
unfoldable pub tests_after : {A : Type 0} → (test : List A → A → Bool) → (before xs : List A) → List Bool
tests_after test before [] = []
tests_after test before (x ∷ xs) = test before x ∷ tests_after test (before ++ x ∷ []) xs

-- of each number whether it is one of those before it
abbrev pub repeats : List (Option ℕ) → List Bool
repeats ns = tests_after was_there [] ns

-- the test at the index, false past the end
abbrev pub is_set : List Bool → ℕ → Bool
is_set tests n = unwrap_or (slice_get tests n) false

-- ## Entries

-- the test, of what is there
abbrev pub holds_of : {A : Type 0} → (A → Bool) → Option A → Bool
holds_of test None = false
holds_of test (Some a) = test a

abbrev pub entry_at : TableList → ℕ → Members → Option Data
entry_at list n ms = slice_get (entries_at (list_key list) ms) n

abbrev pub table_at : TableList → ℕ → Members → Option Members
table_at list n ms = option_and_then as_table (entry_at list n ms)

abbrev pub is_no_list : Option Data → Bool
is_no_list None = false
is_no_list (Some d) = is_none (items_at d)

abbrev pub is_no_table : Option Data → Bool
is_no_table None = false
is_no_table (Some d) = is_none (as_table d)

-- ## Targets

-- whether the table's kind goes to destinations, if it is known
abbrev pub kind_goes : Members → Option Bool
kind_goes ms = option_map has_destinations (result_ok (kind_in ms))

abbrev pub goes_on : Members → Bool
goes_on ms = unwrap_or (kind_goes ms) false

abbrev pub stays : Members → Bool
stays ms = not (unwrap_or (kind_goes ms) true)

abbrev pub is_unwanted : Members → Bool
is_unwanted ms = stays ms && is_some (get_member (codes "to") ms)

abbrev pub is_too_long : Members → Bool
is_too_long ms = goes_on ms && nat_lt 64 (length (entries_at (codes "to") ms))

abbrev pub has_no_destinations : Members → Bool
has_no_destinations ms = goes_on ms && length (entries_at (codes "to") ms) == 0

-- the values of `to`
abbrev pub destinations_of : Option Members → List Data
destinations_of None = []
destinations_of (Some table) = entries_at (codes "to") table

-- ## Loops

abbrev pub lies_outside : List ApartStretch → Read ℕ → Read ℕ → Read ℕ → Bool
lies_outside apart (Ok first) (Ok last) (Ok header) = not (may_stand apart first header last)
lies_outside apart _ _ _ = false

-- ## Stretches apart

-- the entry of `apart` with the index
abbrev pub stretch_entry : ℕ → Members → Option Data
stretch_entry n ms = slice_get (entries_at (codes "apart") ms) n

abbrev pub is_no_stretch : Option Data → Bool
is_no_stretch None = false
is_no_stretch (Some d) = is_none (pair_at d)

-- its values, if it is a list of two
abbrev pub stretch_ends : ℕ → Members → Option (Data × Data)
stretch_ends n ms = option_and_then pair_at (stretch_entry n ms)

-- ## Rules

-- the last address lies before the first
abbrev pub ends_early : (first last : Read ℕ) → Bool
ends_early (Ok first) (Ok last) = nat_lt last first
ends_early _ _ = false

-- the stretch of a rule whose register and part are known
abbrev pub stretch_of : Read Register → (first last : Read ℕ) → Option Stretch
stretch_of (Ok base) (Ok first) (Ok last) = Some (record { base = base; first = first; last = last })
stretch_of _ _ _ = None

-- the stretch, if there is one, shares an address with one of those before
abbrev pub was_met : (before : List (Option Stretch)) → Option Stretch → Bool
was_met before None = false
was_met before (Some p) = list_any (holds_of (meets p)) before

-- of each stretch whether it shares an address with one of those before it
abbrev pub meetings : List (Option Stretch) → List Bool
meetings ps = tests_after was_met [] ps

module _ (names : Names) where
  abbrev pub is_outside : List ApartStretch → Members → Bool
  is_outside apart ms =
      lies_outside apart (address_in names (codes "first") ms) (address_in names (codes "last") ms)
      (address_in names (codes "header") ms)

  -- the loop's words may not be a loop's, by the stretches, if they are known
  abbrev pub is_misplaced : Option (List ApartStretch) → ℕ → Members → Bool
  is_misplaced apart n ms = holds_of (λ known. holds_of (is_outside known) (table_at Loops n ms)) apart

  abbrev pub end_gives : ℕ → Data × Data → StatementFault → Bool
  end_gives i ends fault = holds_of (λ d. gives (address_at names d) fault) (end_of ends i)

  abbrev pub are_reversed : Data × Data → Bool
  are_reversed ends = ends_early (address_at names ends.0) (address_at names ends.1)

  -- ## The keys of a table

  abbrev pub own_key_gives : Key → Members → StatementFault → Bool
  own_key_gives Entry ms fault = gives (address_in names (codes "entry") ms) fault
  own_key_gives Leave ms fault = gives (leave_in ms) fault
  own_key_gives Returns ms fault = gives (returns_in ms) fault
  own_key_gives _ ms fault = false

  abbrev pub loop_key_gives : Key → Members → StatementFault → Bool
  loop_key_gives Header ms fault = gives (address_in names (codes "header") ms) fault
  loop_key_gives First ms fault = gives (address_in names (codes "first") ms) fault
  loop_key_gives Last ms fault = gives (address_in names (codes "last") ms) fault
  loop_key_gives Bound ms fault = gives (number_in statement_faults (codes "bound") MOST_ROUNDS ms) fault
  loop_key_gives _ ms fault = false

  abbrev pub target_key_gives : Key → Members → StatementFault → Bool
  target_key_gives At ms fault = gives (address_in names (codes "at") ms) fault
  target_key_gives Kind ms fault = gives (kind_in ms) fault
  target_key_gives To ms fault = is_same WrongKind fault && has_no_destinations ms
  target_key_gives _ ms fault = false

  abbrev pub access_key_gives : Key → Members → StatementFault → Bool
  access_key_gives At ms fault = gives (address_in names (codes "at") ms) fault
  access_key_gives Class ms fault = gives (class_in ms) fault
  access_key_gives _ ms fault = false

  abbrev pub rule_key_gives : Key → Members → StatementFault → Bool
  rule_key_gives Base ms fault = gives (register_in ms) fault
  rule_key_gives Class ms fault = gives (class_in ms) fault
  rule_key_gives First ms fault = gives (first_in names ms) fault
  rule_key_gives Last ms fault = gives (last_in names ms) fault
  rule_key_gives _ ms fault = false

  abbrev pub multiply_key_gives : Key → Members → StatementFault → Bool
  multiply_key_gives At ms fault = gives (address_in names (codes "at") ms) fault
  multiply_key_gives Cycles ms fault = gives (cycles_in ms) fault
  multiply_key_gives _ ms fault = false

  abbrev pub branch_key_gives : Key → Members → StatementFault → Bool
  branch_key_gives At ms fault = gives (address_in names (codes "at") ms) fault
  branch_key_gives Taken ms fault = gives (taken_in ms) fault
  branch_key_gives _ ms fault = false

  abbrev pub key_gives : Option TableList → Key → Members → StatementFault → Bool
  key_gives None key ms fault = own_key_gives key ms fault
  key_gives (Some Loops) key ms fault = loop_key_gives key ms fault
  key_gives (Some Targets) key ms fault = target_key_gives key ms fault
  key_gives (Some Accesses) key ms fault = access_key_gives key ms fault
  key_gives (Some Rules) key ms fault = rule_key_gives key ms fault
  key_gives (Some Multiplies) key ms fault = multiply_key_gives key ms fault
  key_gives (Some Branches) key ms fault = branch_key_gives key ms fault

  abbrev pub part_gives : Option TableList → Part → Members → StatementFault → Bool
  part_gives of (Unknown key) ms fault =
      is_same UnknownKey fault && (is_some (get_member key.now ms) && not (is_one_of (keys_of of) key.now))
  part_gives of (Value key) ms fault = is_some (get_member (key_name key) ms) && key_gives of key ms fault
  part_gives of (Missing key) ms fault = is_none (get_member (key_name key) ms) && key_gives of key ms fault

  -- ## Repeats

  abbrev pub address_of_value : Data → Option ℕ
  address_of_value d = result_ok (address_at names d)

  abbrev pub address_of_table : Members → Option ℕ
  address_of_table ms = result_ok (address_in names (codes "at") ms)

  -- the address of the word that a target, an access, a multiply or a branch is for
  abbrev pub address_of_entry : Data → Option ℕ
  address_of_entry d = option_and_then address_of_table (as_table d)

  abbrev pub entry_repeats : List Data → List Bool
  entry_repeats ds = repeats (map address_of_entry ds)

  abbrev pub destination_repeats : Data → List Bool
  destination_repeats d = repeats (map address_of_value (destinations_of (as_table d)))

  abbrev pub repeats_of : Option Data → List Bool
  repeats_of None = []
  repeats_of (Some d) = destination_repeats d

  abbrev pub is_reversed : Members → Bool
  is_reversed ms = ends_early (first_in names ms) (last_in names ms)

  abbrev pub stretch_of_table : Members → Option Stretch
  stretch_of_table ms = stretch_of (register_in ms) (first_in names ms) (last_in names ms)

  -- the stretch that a rule is for
  abbrev pub stretch_of_entry : Data → Option Stretch
  stretch_of_entry d = option_and_then stretch_of_table (as_table d)

  abbrev pub rule_meetings : List Data → List Bool
  rule_meetings ds = meetings (map stretch_of_entry ds)

  abbrev pub is_second : TableList → ℕ → Members → Bool
  is_second Loops n ms = false
  is_second Targets n ms = is_set (entry_repeats (entries_at (codes "target") ms)) n
  is_second Accesses n ms = is_set (entry_repeats (entries_at (codes "access") ms)) n
  is_second Rules n ms = is_set (rule_meetings (entries_at (codes "base") ms)) n
  is_second Multiplies n ms = is_set (entry_repeats (entries_at (codes "multiply") ms)) n
  is_second Branches n ms = is_set (entry_repeats (entries_at (codes "branch") ms)) n

  abbrev pub is_second_destination : ℕ → ℕ → Members → Bool
  is_second_destination n i ms = is_set (repeats_of (entry_at Targets n ms)) i

  -- ## Spots

  abbrev pub destination_gives : ℕ → Members → StatementFault → Bool
  destination_gives i table fault =
      goes_on table
      && holds_of (λ d. gives (address_at names d) fault) (slice_get (entries_at (codes "to") table) i)

  abbrev pub found : Members → Spot → StatementFault → Bool
  found ms (spot.Own part) fault = part_gives None part ms fault
  found ms (spot.NoList list) fault = is_same WrongKind fault && is_no_list (get_member (list_key list) ms)
  found ms (spot.TooMany list) fault =
      is_same OutOfRange fault && nat_lt (most_of list) (length (entries_at (list_key list) ms))
  found ms (spot.NoTable list n) fault = is_same WrongKind fault && is_no_table (entry_at list n ms)
  found ms (spot.Listed list n part) fault =
      holds_of (λ table. part_gives (Some list) part table fault) (table_at list n ms)
  found ms (spot.Misplaced n) fault =
      is_same OutOfRange fault && is_misplaced (result_ok (apart_in names ms)) n ms
  found ms (spot.Unwanted n) fault = is_same WrongKind fault && holds_of is_unwanted (table_at Targets n ms)
  found ms (spot.TooManyDestinations n) fault =
      is_same OutOfRange fault && holds_of is_too_long (table_at Targets n ms)
  found ms (spot.Destination n i) fault =
      holds_of (λ table. destination_gives i table fault) (table_at Targets n ms)
      || (is_same Twice fault && (holds_of goes_on (table_at Targets n ms) && is_second_destination n i ms))
  found ms (spot.Reversed n) fault = is_same OutOfRange fault && holds_of is_reversed (table_at Rules n ms)
  found ms spot.NoStretches fault =
      is_same WrongKind fault && is_no_list (get_member (codes "apart") ms)
  found ms spot.TooManyStretches fault =
      is_same OutOfRange fault && nat_lt 256 (length (entries_at (codes "apart") ms))
  found ms (spot.NoStretch n) fault = is_same WrongKind fault && is_no_stretch (stretch_entry n ms)
  found ms (spot.StretchEnd n i) fault = holds_of (λ ends. end_gives i ends fault) (stretch_ends n ms)
  found ms (spot.ReversedStretch n) fault =
      is_same OutOfRange fault && holds_of are_reversed (stretch_ends n ms)
  found ms (spot.Second list n) fault = is_same Twice fault && is_second list n ms

-- ## Addresses so far

-- the addresses before
pub record AreSeen (before : List (Option ℕ)) (seen : BTreeSet ℕ) : Type 0 where
  pub same : (a : ℕ) → contains nat_cmp seen a ≡ is_among before a

-- one of the stretches has the address
abbrev pub is_covered : List (Option Stretch) → ℕ → ℕ → Option ⊤
is_covered before base a = if list_any (holds_of (is_within base a)) before then Some tt else None

-- ## As it is stored

-- of the entries of each list, and the destinations of each target, whether an earlier one is of the address;
-- and the stretches apart, if they are known
pub record IsStored (names : Names) (ms : Members) (targets accesses rules multiplies branches : List Bool)
    (destinations : List (Vec Bool Global)) (apart : Option (List ApartStretch)) : Type 0 where
  pub targets_known : targets ≡ entry_repeats names (entries_at (codes "target") ms)
  pub accesses_known : accesses ≡ entry_repeats names (entries_at (codes "access") ms)
  pub rules_known : rules ≡ rule_meetings names (entries_at (codes "base") ms)
  pub multiplies_known : multiplies ≡ entry_repeats names (entries_at (codes "multiply") ms)
  pub branches_known : branches ≡ entry_repeats names (entries_at (codes "branch") ms)
  pub destinations_known : map (λ v. v.items) destinations
      ≡ map (destination_repeats names) (entries_at (codes "target") ms)
  pub apart_known : apart ≡ result_ok (apart_in names ms)
