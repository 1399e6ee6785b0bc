-- What an author states of a handler, as a value.
use Rattle.std.specs.Prelude.{◌≡◌, ℕ, ◌≤◌, ◌<◌, Bool, true, ◌&&◌, List, [], ◌∷◌, ◌++◌, length, All, AllPairs}
use Rattle.std.specs.Prelude.{find, max, min, nat_eq, nat_le, Option, Some, None, option_map, unwrap_or}
use Rattle.std.specs.Prelude.{◌+◌, ◌||◌}
use Rattle.std.specs.Prelude.{if◌then◌else◌}
use Rattle.std.specs.Bool.{beq}
use Rattle.std.specs.List.{list_all, list_any}
use Rattle.std.specs.Map.{lookup}
use Rattle.std.specs.Option.{option_or}
use Rattle.arm2_decode.specs.Names.{is_same}
use Rattle.arm2_decode.specs.declared.names.Register.{Register}
use Rattle.shifter.specs.declared.shifts.TheConstants.{MOST_MULTIPLY_CYCLES}
use Rattle.bus_ticks.specs.declared.space.TheConstants.{SPACE_END}
use Rattle.bus_ticks.specs.declared.profile.Class.{Class}
use Rattle.bus_ticks.specs.declared.profile.Class.TheVariants.{Any}
use Rattle.walks.specs.declared.limits.TheConstants.{MOST_ROUNDS}
use Rattle.statement.specs.declared.apart.ApartStretch.{ApartStretch}
use Rattle.statement.specs.declared.stated.BaseRule.{BaseRule}
use Rattle.statement.specs.declared.stated.Loop.{Loop}
use Rattle.statement.specs.declared.stated.Returns.{Returns}
use Rattle.statement.specs.declared.stated.Taken.{Taken}
use Rattle.statement.specs.declared.stated.TargetKind.{TargetKind}

-- what a word that writes R15 does; the destinations of a jump or a call, in the text's order
pub record Target : Type 0 where
  pub kind : TargetKind
  pub to : List ℕ

-- the loops, and the stretches of words that belong to no loop among whose addresses they lie but one that is
-- itself apart, both in the text's order
pub record StatedLoops : Type 0 where
  pub list : List Loop
  pub apart : List ApartStretch

-- the entry's address, the class of the addresses to which the handler leaves, whether a word that writes R15
-- and has no target returns or must have one, and the loops with what is apart from them. Then, by the
-- addresses of words and in the text's order: the targets of some, the classes of the addresses that some
-- transfer, the most cycles of some multiplies, and whether some that have a condition are always or never
-- done. A rule gives a class to each word of its part that loads or stores with its register as base and has
-- no class of its own
pub record Stated : Type 0 where
  pub entry : ℕ
  pub leave : Class
  pub returns : Returns
  pub loops : StatedLoops
  pub targets : List (ℕ × Target)
  pub accesses : List (ℕ × Class)
  pub rules : List BaseRule
  pub multiplies : List (ℕ × ℕ)
  pub branches : List (ℕ × Taken)

-- the target stated for the word at an address
abbrev pub target_of : Stated → ℕ → Option Target
target_of st address = lookup (nat_eq address) st.targets

-- the targets, but that of the word at an address goes to those destinations
abbrev pub going_to : List ℕ → ℕ → List (ℕ × Target) → List (ℕ × Target)
going_to to address [] = []
going_to to address (t ∷ ts) =
    if nat_eq address t.0 then (t.0, record { kind = t.1.kind; to = to }) ∷ ts
    else t ∷ going_to to address ts

-- the same statement, but that the target stated for the word at an address goes to those destinations
abbrev pub with_destinations : Stated → ℕ → List ℕ → Stated
with_destinations st address to = record st { targets = going_to to address st.targets }

-- the rule is for that base, and the address lies in its part
abbrev pub is_ruled : Register → ℕ → BaseRule → Bool
is_ruled base address r = is_same r.register base && (nat_le r.first address && nat_le address r.last)

-- the class that a rule states for what the word at an address transfers by that base, if it has one
abbrev pub ruled_class : List BaseRule → ℕ → Option Register → Option Class
ruled_class rules address None = None
ruled_class rules address (Some base) = option_map (λ r. r.class) (find (is_ruled base address) rules)

-- the class stated for what the word at an address transfers by that base: its own, else that of a rule, and
-- Any where none is stated
abbrev pub class_at : Stated → ℕ → Option Register → Class
class_at st address base =
    unwrap_or (option_or (lookup (nat_eq address) st.accesses) (ruled_class st.rules address base)) Any

-- the most internal cycles of a multiply at an address: the number stated, and 16 where none is. It is never
-- below 1, which other words may take, nor above 16
abbrev pub cycles_at : Stated → ℕ → ℕ
cycles_at st address =
    max 1
    (min MOST_MULTIPLY_CYCLES (unwrap_or (lookup (nat_eq address) st.multiplies) MOST_MULTIPLY_CYCLES))

-- whether the word at an address is stated to be always or never done
abbrev pub taken_at : Stated → ℕ → Option Taken
taken_at st address = lookup (nat_eq address) st.branches

-- the address is in one of the stretches
abbrev pub is_apart : List ApartStretch → ℕ → Bool
is_apart apart address = list_any (λ s. nat_le s.first address && nat_le address s.last) apart

-- where a word counts as lying for loops: at its address, but one that is apart lies 4000000 further on, past
-- all of memory. (Numbers past memory, which no word has, move too, so that no two meet.)
abbrev pub lies_at : List ApartStretch → ℕ → ℕ
lies_at apart address =
    if is_apart apart address || nat_le SPACE_END address then address + SPACE_END else address

-- the word lies from first to last, each where it lies for loops. Of a loop of a statement these are the words
-- from its first address to its last that are apart exactly where its first word is (the law
-- words_lie_by_address)
abbrev pub lies_within : List ApartStretch → (first word last : ℕ) → Bool
lies_within apart first word last =
    nat_le (lies_at apart first) (lies_at apart word) && nat_le (lies_at apart word) (lies_at apart last)

abbrev pub LiesWithin : List ApartStretch → (first word last : ℕ) → Type 0
LiesWithin apart first word last =
    (lies_at apart first ≤ lies_at apart word) × (lies_at apart word ≤ lies_at apart last)

-- both words are apart, or neither is
abbrev pub are_alike : List ApartStretch → ℕ → ℕ → Bool
are_alike apart a b = beq (is_apart apart a) (is_apart apart b)

-- these may be a loop's first word, its header and its last word: the header lies from the first to the last,
-- and the first and the last are both apart or neither is
abbrev pub may_stand : List ApartStretch → (first header last : ℕ) → Bool
may_stand apart first header last = lies_within apart first header last && are_alike apart first last

abbrev pub MayStand : List ApartStretch → (first header last : ℕ) → Type 0
MayStand apart first header last =
    LiesWithin apart first header last × (is_apart apart first ≡ is_apart apart last)

-- a loop's words are such
abbrev pub is_placed : List ApartStretch → Loop → Bool
is_placed apart l = may_stand apart l.first l.header l.last

abbrev pub IsPlaced : List ApartStretch → Loop → Type 0
IsPlaced apart l = MayStand apart l.first l.header l.last

-- the same loops, with more stretches apart, where the words of all are then such
abbrev pub also_apart : StatedLoops → List ApartStretch → Option StatedLoops
also_apart loops more =
    if list_all (is_placed (loops.apart ++ more)) loops.list
    then Some (record { list = loops.list; apart = loops.apart ++ more }) else None

-- what holds of each stated loop: its header lies from its first to its last word, as words lie for loops;
-- its ends are both apart or both not; its last word is in memory; and its bound is one that may be stated
pub record IsLoop (apart : List ApartStretch) (l : Loop) : Type 0 where
  pub within : LiesWithin apart l.first l.header l.last
  pub ends : is_apart apart l.first ≡ is_apart apart l.last
  pub last_small : l.last < SPACE_END
  pub bound_small : l.bound ≤ MOST_ROUNDS

-- the destinations are addresses
abbrev pub IsTarget : Target → Type 0
IsTarget t = All (λ a. a < SPACE_END) t.to

-- what holds of each stated rule
pub record IsRule (r : BaseRule) : Type 0 where
  pub ordered : r.first ≤ r.last
  pub last_small : r.last < SPACE_END

-- no base and address are covered by both rules
abbrev pub ShareNoWord : BaseRule → BaseRule → Type 0
ShareNoWord r q = (base : Register) (a : ℕ) → is_ruled base a r ≡ true → is_ruled base a q ≡ true → ⊥

-- what the crates above use of each statement
pub record IsStated (st : Stated) : Type 0 where
  pub entry_small : st.entry < SPACE_END
  pub within : All (IsLoop st.loops.apart) st.loops.list
  pub few : length st.loops.list ≤ 256
  pub destinations : All (λ t. IsTarget t.1) st.targets
  pub rules_within : All IsRule st.rules
  pub rules_disjoint : AllPairs ShareNoWord st.rules
  pub cycles : All (λ m. (1 ≤ m.1) × (m.1 ≤ MOST_MULTIPLY_CYCLES)) st.multiplies
