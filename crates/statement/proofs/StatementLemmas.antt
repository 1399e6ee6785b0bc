-- What holds of all that is read.
use Rattle.std.proofs.Common.{◌≡◌, ℕ, ℤ, pos, negsuc, arith, ◌+◌, ◌-◌, ◌%◌, ◌^◌, ◌<◌, ◌≤◌, Bool, true, false, ◌&&◌, cond, eqb, leb, List, [], length, take, drop, Option, Some, None, Ok, Err, Vec, get_or, is_none, refl, sym, ap, ◌∙◌, subst}
use Rattle.std.specs.Prelude.{All, IfOk, codes}
use Rattle.std.specs.declared.alloc.Global.{Global}
use Rattle.std.proofs.lemmas.Bool.{and_parts, leb-true}
use Rattle.std.proofs.lemmas.List.Elements.{All-nil}
use Rattle.std.proofs.lemmas.List.Sums.{AllPass-from_list_all}
use Rattle.std.specs.List.{list_all}
use Rattle.std.specs.Str.Parse.{digits_value}
use Rattle.toml.specs.Data.{Data, Members, as_integer, as_str, as_table, get_member}
use Rattle.bus_ticks.specs.declared.profile.Class.{Class}
use Rattle.walks.specs.declared.limits.TheConstants.{MOST_ROUNDS}
use Rattle.toml_reading.specs.Documents.{are_distinct, in_space, items_at, listed_up_to, number_in, once}
use Rattle.toml_reading.specs.Readings.{and_then, pair, items_in, required, reading_map}
use Rattle.toml_reading.proofs.ReadingLemmas.{also_holds, and_then_holds, pair_holds, check_holds, first_holds, follows_holds, implied, in_space_holds, listed_up_to_holds, number_in_holds, required_holds, second_holds, map_pair, map_second, optional_holds, tables_few, tables_up_to_hold, test_holds}
use Rattle.arm2_decode.specs.declared.names.Register.{Register}
use Rattle.bus_ticks.specs.declared.space.TheConstants.{SPACE_END}
use Rattle.shifter.specs.declared.shifts.TheConstants.{MOST_MULTIPLY_CYCLES}
use Rattle.statement.specs.ReadingParts.{AreBounded, AreRead, StoredLimits, StoredWords, pair_of, parts_in, rules_of, words_of}
use Rattle.statement.specs.Stated.{IsLoop, IsRule, IsTarget, StatedLoops, Target, is_placed}
use Rattle.image.specs.Labels.{Names}
use Rattle.statement.specs.Statement.{Frame, Parts, Read, accesses_in, address_at, address_in, address_or, apart_in, at_offset, branches_in, class_in, cycles_in, cycles_named_at, cycles_of, first_in, frame_in, last_in, limits_in, multiplies_in, multiply_at, multiply_in, placed_rule, register_in, rule_at, rule_in, rule_parts, rules_and_limits, rules_in, words_in, destinations, destinations_at, target_of_kind, ends_in, kind_in, from_label, is_number, label_or_offset, last_sign, leaving_in, loop_at, loop_in, loop_of, loop_parts, loops_in, moved, number_or_text, parts_of, placed_loops, sign_at, stated_loops_in, some_destinations, target_at, target_in, targets_in}
use Rattle.statement.specs.StatementFaults.{statement_faults}
use Rattle.statement.specs.declared.faults.StatementFault.TheVariants.{OutOfRange, UnknownLabel, WrongKind, Twice}
use Rattle.statement.specs.declared.offsets.Sign.{Sign}
use Rattle.statement.specs.declared.offsets.Sign.TheVariants.{Plus, Minus}
use Rattle.statement.specs.declared.apart.ApartStretch.{ApartStretch}
use Rattle.statement.specs.declared.stated.BaseRule.{BaseRule}
use Rattle.statement.specs.declared.stated.Loop.{Loop}
use Rattle.statement.specs.declared.stated.TargetKind.{TargetKind}
use Rattle.statement.specs.declared.stated.TargetKind.TheVariants.{Jump, Call, Return, Leave}
use Rattle.statement.proofs.StandLemmas.{stand_is}

-- ## Statements

abbrev pub IsSmall : ℕ → Type 0
IsSmall a = a < 2 ^ 26

moved_small : (sign : Sign) (bytes label : ℕ) → IfOk (moved sign bytes label) IsSmall
moved_small Plus bytes label = in_space_holds statement_faults (pos (label + bytes))
moved_small Minus bytes label = by_order (leb bytes label)
  where
    by_order :
        (b : Bool)
        → IfOk (cond b (in_space statement_faults (pos (label - bytes))) (Err OutOfRange)) IsSmall
    by_order true = in_space_holds statement_faults (pos (label - bytes))
    by_order false = tt

from_label_small :
    (sign : Sign) (bytes : ℕ) (label : Option ℕ) → IfOk (from_label sign bytes label) IsSmall
from_label_small sign bytes None = tt
from_label_small sign bytes (Some label) = by_rest (eqb (bytes % 4) 0)
  where
    by_rest : (b : Bool) → IfOk (cond b (moved sign bytes label) (Err OutOfRange)) IsSmall
    by_rest true = moved_small sign bytes label
    by_rest false = tt

at_offset_small :
    (names : Names) (text : List ℕ) (at : Option ℕ) → IfOk (at_offset names text at) IsSmall
at_offset_small names text None = tt
at_offset_small names text (Some at) = by_digits (is_number (drop (at + 1) text))
  where
    by_digits :
        (b : Bool)
        → IfOk
        (cond b (from_label (sign_at text at) (digits_value 10 (drop (at + 1) text)) (names (take at text))) (Err UnknownLabel))
        IsSmall
    by_digits true =
        from_label_small (sign_at text at) (digits_value 10 (drop (at + 1) text)) (names (take at text))
    by_digits false = tt

label_or_offset_small :
    (names : Names) (text : List ℕ) (label : Option ℕ) → IfOk (label_or_offset names text label) IsSmall
label_or_offset_small names text (Some label) = in_space_holds statement_faults (pos label)
label_or_offset_small names text None = at_offset_small names text (last_sign text)

number_or_text_small :
    (names : Names) (o : Option ℤ) (text : Option (List ℕ))
    → IfOk (number_or_text names o text) IsSmall
number_or_text_small names (Some z) text = in_space_holds statement_faults z
number_or_text_small names None (Some text) = label_or_offset_small names text (names text)
number_or_text_small names None None = tt

address_small : (names : Names) (d : Data) → IfOk (address_at names d) IsSmall
address_small names d = number_or_text_small names (as_integer d) (as_str d)

address_or_small :
    (names : Names) (key : List ℕ) (missing : ℕ) (ms : Members)
    → IsSmall missing
    → IfOk (address_or names key missing ms) IsSmall
address_or_small names key missing ms small =
    optional_holds statement_faults IsSmall missing (get_member key ms) (address_at names) small (address_small names)

address_in_small : (names : Names) (key : List ℕ) (ms : Members) → IfOk (address_in names key ms) IsSmall
address_in_small names key ms =
    required_holds statement_faults IsSmall (get_member key ms) (address_at names) (address_small names)

abbrev pub IsBound : ℕ → Type 0
IsBound n = n ≤ MOST_ROUNDS

abbrev pub AreEnds : (ℕ × ℕ) × (ℕ × ℕ) → Type 0
AreEnds p = (IsSmall p.0.0 × IsSmall p.0.1) × (IsSmall p.1.0 × IsBound p.1.1)

loop_parts_hold : (names : Names) (ms : Members) → IfOk (loop_parts names ms) AreEnds
loop_parts_hold names ms =
    let ends = pair statement_faults (address_in names (codes "first") ms) (address_in names (codes "last") ms) in
    let rest = pair statement_faults (address_in names (codes "header") ms) (number_in statement_faults (codes "bound") MOST_ROUNDS ms) in
    pair_holds statement_faults (λ e. IsSmall e.0 × IsSmall e.1) (λ e. IsSmall e.0 × IsBound e.1) ends rest
    (pair_holds statement_faults IsSmall IsSmall (address_in names (codes "first") ms) (address_in names (codes "last") ms) (address_in_small names (codes "first") ms) (address_in_small names (codes "last") ms))
    (pair_holds statement_faults IsSmall IsBound (address_in names (codes "header") ms) (number_in statement_faults (codes "bound") MOST_ROUNDS ms) (address_in_small names (codes "header") ms) (number_in_holds statement_faults MOST_ROUNDS (codes "bound") ms))

-- a loop whose header is not judged yet
abbrev pub IsWhole : Loop → Type 0
IsWhole l = (l.last < SPACE_END) × (l.bound ≤ MOST_ROUNDS)

whole_loop : (r : Read ((ℕ × ℕ) × (ℕ × ℕ))) → IfOk r AreEnds → IfOk (reading_map loop_of r) IsWhole
whole_loop (Ok p) h = (h.0.1, h.1.1)
whole_loop (Err f) h = tt

loop_in_holds : (names : Names) (ms : Members) → IfOk (loop_in names ms) IsWhole
loop_in_holds names ms =
    check_holds statement_faults IsWhole _ _ (reading_map loop_of (loop_parts names ms)) (whole_loop (loop_parts names ms) (loop_parts_hold names ms))

loop_holds : (names : Names) (d : Data) → IfOk (loop_at names d) IsWhole
loop_holds names d =
    required_holds statement_faults IsWhole (as_table d) (loop_in names) (loop_in_holds names)

-- ## Destinations

abbrev pub AllSmall : List ℕ → Type 0
AllSmall to = All IsSmall to

some_small : (names : Names) (ds : List Data) → IfOk (some_destinations names ds) AllSmall
some_small names ds = by_length (eqb (length ds) 0)
  where
    by_length :
        (b : Bool)
        → IfOk
        (cond b (Err WrongKind) (and_then (listed_up_to statement_faults 64 (address_at names) ds) (once Twice (λ ns. ns))))
        AllSmall
    by_length true = tt
    by_length false =
        follows_holds
        statement_faults
        AllSmall
        AllSmall
        (listed_up_to statement_faults 64 (address_at names) ds)
        (once Twice (λ ns. ns))
        (listed_up_to_holds statement_faults IsSmall (address_at names) (address_small names) 64 ds)
        (λ to h. test_holds statement_faults AllSmall (are_distinct to) to Twice (λ _. h))

none_small : (b : Bool) → IfOk (cond b (Ok []) (Err WrongKind)) AllSmall
none_small true = All-nil IsSmall
none_small false = tt

called_small :
    (names : Names) (o : Option Data)
    → IfOk (required statement_faults o (destinations_at names)) AllSmall
called_small names o =
    required_holds statement_faults AllSmall o (destinations_at names)
    (λ d. required_holds statement_faults AllSmall (items_at d) (some_destinations names) (some_small names))

pub destinations_small :
    (names : Names) (o : Option Data) (k : TargetKind)
    → IfOk (destinations names o k) AllSmall
destinations_small names o Jump = called_small names o
destinations_small names o Call = called_small names o
destinations_small names o Return = none_small (is_none o)
destinations_small names o Leave = none_small (is_none o)

-- destinations that were read
pub read_small :
    (names : Names) (o : Option Data) (k : TargetKind) (r : Read (Vec ℕ Global)) (to : Vec ℕ Global)
    → r ≡ Ok to
    → items_in r ≡ destinations names o k
    → AllSmall to.items
read_small names o k r to is same =
    let whole : Ok to.items ≡ destinations names o k = ap items_in (sym is) ∙ same in
    subst (λ (x : Read (List ℕ)). IfOk x AllSmall) (sym whole) (destinations_small names o k)

abbrev pub IsStatedTarget : ℕ × Target → Type 0
IsStatedTarget t = IsTarget t.1

target_of_kind_small : (names : Names) (o : Option Data) (k : TargetKind) → IfOk (target_of_kind names o k) IsTarget
target_of_kind_small names o k = of_list (destinations names o k) (destinations_small names o k)
  where
    of_list :
        (r : Read (List ℕ))
        → IfOk r AllSmall
        → IfOk (reading_map (λ to. record { kind = k; to = to }) r) IsTarget
    of_list (Ok to) h = h
    of_list (Err f) h = tt

target_in_holds : (names : Names) (ms : Members) → IfOk (target_in names ms) IsStatedTarget
target_in_holds names ms =
    check_holds statement_faults IsStatedTarget _ _ _
    (second_holds statement_faults IsTarget (address_in names (codes "at") ms) _
    (and_then_holds statement_faults IsTarget (kind_in ms) (target_of_kind names (get_member (codes "to") ms)) (target_of_kind_small names (get_member (codes "to") ms))))

target_holds : (names : Names) (d : Data) → IfOk (target_at names d) IsStatedTarget
target_holds names d =
    required_holds statement_faults IsStatedTarget (as_table d) (target_in names) (target_in_holds names)

-- ## Parts

abbrev pub AreLoops : StatedLoops → Type 0
AreLoops loops = All (IsLoop loops.apart) loops.list × (length loops.list ≤ 256)

abbrev pub AreTargets : List (ℕ × Target) → Type 0
AreTargets ts = All IsStatedTarget ts

whole_hold : (names : Names) (ms : Members) → IfOk (loops_in names ms) AreBounded
whole_hold names ms =
    implied (λ ls. All IsWhole ls × (length ls ≤ 256)) AreBounded (loops_in names ms) (λ ls h. record { small = h.0; few = h.1 })
    (also_holds (All IsWhole) (λ ls. length ls ≤ 256) (loops_in names ms)
    (tables_up_to_hold statement_faults IsWhole (loop_at names) (loop_holds names) 256 (get_member (codes "loop") ms))
    (tables_few statement_faults (loop_at names) 256 (get_member (codes "loop") ms)))

-- loops and what is apart from them, as they were read
pub pair_whole : (names : Names) (ms : Members) → IfOk (pair statement_faults (loops_in names ms) (apart_in names ms)) (λ p. AreBounded p.0)
pair_whole names ms = first_holds statement_faults AreBounded (loops_in names ms) (apart_in names ms) (whole_hold names ms)

-- one of them that lies where it may
placed_is_loop : (apart : List ApartStretch) (l : Loop) → IsWhole l → is_placed apart l ≡ true → IsLoop apart l
placed_is_loop apart l h e =
    let stands = (stand_is apart l.first l.header l.last).0 e in
    record { within = stands.0; ends = stands.1; last_small = h.0; bound_small = h.1 }

pub placed_are_loops : (apart : List ApartStretch) (ls : List Loop) → AreBounded ls → list_all (is_placed apart) ls ≡ true → All (IsLoop apart) ls
placed_are_loops apart ls h e =
    λ k d low. placed_is_loop apart (get_or ls k d) (h.small k d low) (AllPass-from_list_all (is_placed apart) ls e k d low)

loops_hold : (names : Names) (ms : Members) → IfOk (stated_loops_in names ms) AreLoops
loops_hold names ms =
    follows_holds statement_faults AreLoops (λ p. AreBounded p.0) (pair statement_faults (loops_in names ms) (apart_in names ms)) placed_loops (pair_whole names ms)
    (λ p h. test_holds statement_faults AreLoops (list_all (is_placed p.1) p.0) (record { list = p.0; apart = p.1 }) OutOfRange (λ e. (placed_are_loops p.1 p.0 h e, h.few)))

targets_hold : (names : Names) (ms : Members) → IfOk (targets_in names ms) AreTargets
targets_hold names ms =
    tables_up_to_hold
    statement_faults
    IsStatedTarget
    (target_at names)
    (target_holds names)
    1024
    (get_member (codes "target") ms)

-- ## Rules and multiplies

abbrev EndsLow : (Register × Class) × (ℕ × ℕ) → Type 0
EndsLow p = IsSmall p.1.1

placed_is_rule : (p : (Register × Class) × (ℕ × ℕ)) → EndsLow p → IfOk (placed_rule p) IsRule
placed_is_rule p low =
    test_holds
    statement_faults
    IsRule
    (leb p.1.0 p.1.1)
    (record { register = p.0.0; first = p.1.0; last = p.1.1; class = p.0.1 })
    OutOfRange
    (λ e. record { ordered = leb-true p.1.0 p.1.1 e; last_small = low })

rule_parts_low : (names : Names) (ms : Members) → IfOk (rule_parts names ms) EndsLow
rule_parts_low names ms =
    second_holds
    statement_faults
    (λ e. IsSmall e.1)
    (pair statement_faults (register_in ms) (class_in ms))
    (pair statement_faults (first_in names ms) (last_in names ms))
    (second_holds statement_faults IsSmall (first_in names ms) (last_in names ms) (address_or_small names (codes "last") (SPACE_END - 4) ms (omega arith)))

rule_in_holds : (names : Names) (ms : Members) → IfOk (rule_in names ms) IsRule
rule_in_holds names ms =
    check_holds statement_faults IsRule _ _ (and_then (rule_parts names ms) placed_rule)
    (follows_holds statement_faults IsRule EndsLow (rule_parts names ms) placed_rule (rule_parts_low names ms) placed_is_rule)

rule_holds : (names : Names) (d : Data) → IfOk (rule_at names d) IsRule
rule_holds names d =
    required_holds statement_faults IsRule (as_table d) (rule_in names) (rule_in_holds names)

rules_hold : (names : Names) (ms : Members) → IfOk (rules_in names ms) (All IsRule)
rules_hold names ms =
    tables_up_to_hold statement_faults IsRule (rule_at names) (rule_holds names) 256 (get_member (codes "base") ms)

abbrev AreCycles : ℕ → Type 0
AreCycles n = (1 ≤ n) × (n ≤ MOST_MULTIPLY_CYCLES)

cycles_hold : (z : ℤ) → IfOk (cycles_of z) AreCycles
cycles_hold (pos n) =
    test_holds statement_faults AreCycles (leb 1 n && leb n 16) n OutOfRange
    (λ e. let h = and_parts (leb 1 n) (leb n 16) e in (leb-true 1 n h.0, leb-true n 16 h.1))
cycles_hold (negsuc n) = tt

cycles_in_hold : (ms : Members) → IfOk (cycles_in ms) AreCycles
cycles_in_hold ms =
    required_holds statement_faults AreCycles (get_member (codes "cycles") ms) cycles_named_at
    (λ d. required_holds statement_faults AreCycles (as_integer d) cycles_of cycles_hold)

abbrev pub IsStatedMultiply : ℕ × ℕ → Type 0
IsStatedMultiply m = (1 ≤ m.1) × (m.1 ≤ MOST_MULTIPLY_CYCLES)

multiply_holds : (names : Names) (d : Data) → IfOk (multiply_at names d) IsStatedMultiply
multiply_holds names d =
    required_holds statement_faults IsStatedMultiply (as_table d) (multiply_in names)
    (λ ms. check_holds statement_faults IsStatedMultiply _ _ _
    (second_holds statement_faults AreCycles (address_in names (codes "at") ms) (cycles_in ms) (cycles_in_hold ms)))

multiplies_hold : (names : Names) (ms : Members) → IfOk (multiplies_in names ms) (All IsStatedMultiply)
multiplies_hold names ms =
    tables_up_to_hold statement_faults IsStatedMultiply (multiply_at names) (multiply_holds names) 1024 (get_member (codes "multiply") ms)

-- ## The whole

frame_holds : (names : Names) (ms : Members) → IfOk (frame_in names ms) (λ p. IsSmall p.0.0 × AreLoops p.1)
frame_holds names ms =
    pair_holds statement_faults (λ p. IsSmall p.0) AreLoops (ends_in names ms) (stated_loops_in names ms)
    (first_holds statement_faults IsSmall (address_in names (codes "entry") ms) (leaving_in ms) (address_in_small names (codes "entry") ms))
    (loops_hold names ms)

pub parts_hold : (names : Names) (ms : Members) → IfOk (parts_of names ms) AreRead
parts_hold names ms =
    implied
    (λ (p : Parts). ((IsSmall p.0.0.0.0 × AreLoops p.0.0.1) × AreTargets p.0.1.0) × (All IsRule p.1.0 × All IsStatedMultiply p.1.1.0))
    AreRead
    (parts_of names ms)
    (λ p h. record {
      rules = h.1.0;
      stated = λ apart. record {
        entry_small = h.0.0.0;
        within = h.0.0.1.0;
        few = h.0.0.1.1;
        destinations = h.0.1;
        rules_within = h.1.0;
        rules_disjoint = apart;
        cycles = h.1.1;
      };
    })
    (pair_holds statement_faults (λ p. (IsSmall p.0.0.0 × AreLoops p.0.1) × AreTargets p.1.0) (λ p. All IsRule p.0 × All IsStatedMultiply p.1.0) (pair statement_faults (frame_in names ms) (words_in names ms)) (rules_and_limits names ms)
    (pair_holds statement_faults (λ p. IsSmall p.0.0 × AreLoops p.1) (λ p. AreTargets p.0) (frame_in names ms) (words_in names ms) (frame_holds names ms)
    (first_holds statement_faults AreTargets (targets_in names ms) (accesses_in names ms) (targets_hold names ms)))
    (pair_holds statement_faults (All IsRule) (λ p. All IsStatedMultiply p.0) (rules_in names ms) (limits_in names ms) (rules_hold names ms)
    (first_holds statement_faults (All IsStatedMultiply) (multiplies_in names ms) (branches_in names ms) (multiplies_hold names ms))))

-- ## As they are stored

pub stored :
    (f : Read Frame) (w : Read StoredWords) (r : Read (Vec BaseRule Global × StoredLimits))
    → reading_map parts_in (pair statement_faults (pair statement_faults f w) r)
    ≡ pair statement_faults (pair statement_faults f (reading_map words_of w)) (reading_map rules_of r)
stored f w r =
    map_pair statement_faults (λ p. (p.0, words_of p.1)) rules_of (pair statement_faults f w) r
    ∙ (λ i. pair statement_faults (map_second statement_faults words_of f w i) (reading_map rules_of r))

-- loops and what is apart from them
pub stored_pair :
    (l : Read (Vec Loop Global)) (a : Read (List ApartStretch))
    → reading_map pair_of (pair statement_faults l a) ≡ pair statement_faults (items_in l) a
stored_pair (Ok l) (Ok a) = refl
stored_pair (Ok l) (Err g) = refl
stored_pair (Err f) (Ok a) = refl
stored_pair (Err f) (Err g) = refl

pub pair_are_whole :
    (r : Read (Vec Loop Global × List ApartStretch))
    → IfOk (reading_map pair_of r) (λ p. AreBounded p.0)
    → IfOk r (λ p. AreBounded p.0.items)
pair_are_whole (Ok p) h = h
pair_are_whole (Err f) h = tt
