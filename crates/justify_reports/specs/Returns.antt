-- Where the words go that return or leave a handler.
use Rattle.std.specs.Prelude.{◌≡◌, ◌<◌, ◌≤◌, ◌==◌, ◌↔◌, ℕ, Bool, true, false, not, ◌&&◌, ◌||◌, if◌then◌else◌}
use Rattle.std.specs.Prelude.{List}
use Rattle.std.specs.Prelude.{Contains, Option, Some, None, is_some, length, nat_lt}
use Rattle.std.specs.List.Sorted.{IsStrictlySortedBy}
use Rattle.std.specs.Ordering.{nat_cmp}
use Rattle.arm2_decode.specs.Writers.{writes_pc}
use Rattle.arm2_decode.specs.declared.instr.Instr.{Instr}
use Rattle.bus_ticks.specs.Prices.{by_class, class_of, speed_of}
use Rattle.bus_ticks.specs.declared.profile.Class.{Class}
use Rattle.bus_ticks.specs.declared.profile.Class.TheVariants.{Any, Io, Ram, Rom}
use Rattle.bus_ticks.specs.declared.profile.Class.TheVariants.{Fast, Medium, Slow, Synchronous}
use Rattle.control_flow.specs.Edges.{return_place}
use Rattle.control_flow.specs.Flow.{Flow}
use Rattle.control_flow.specs.declared.places.Place.{Place}
use Rattle.control_flow.specs.declared.places.Place.TheVariants.{At, Exit}
use Rattle.image.specs.Image.{Words, word_of}
use Rattle.loop_bounds.specs.Tree.{Tree, place_in}
use Rattle.statement.specs.Stated.{Stated, Target, target_of}
use Rattle.statement.specs.declared.stated.TargetKind.{TargetKind}
use Rattle.statement.specs.declared.stated.TargetKind.TheVariants.{Call, Jump, Leave, Return}
use Rattle.text_explained.specs.Doing.{may_do_shape}
use Rattle.text_explained.specs.Links.{counts_as_return}
use Rattle.text_explained.specs.Taken.{is_reached}
use Rattle.word_shapes.specs.Words.{HasInstr}
use Rattle.known_places.specs.Destinations.{destination_at}
use Rattle.known_places.specs.declared.destination.Destination.{Destination}
use Rattle.known_places.specs.declared.destination.Destination.TheVariants.{LinkLess, To, Unknown}
use Rattle.justify_reports.specs.declared.returns.Going.{Going}
use Rattle.justify_reports.specs.declared.returns.Going.TheVariants.{AfterCall, Back, BackInside, Elsewhere}
use Rattle.justify_reports.specs.declared.returns.Going.TheVariants.{Out, Unseen}

-- ## Which words return

-- it writes R15, may be done, and returns or leaves by what is stated of it or by default
pub record IsReturn (st : Stated) (a : ℕ) (i : Instr) : Type 0 where
  pub writes : may_do_shape writes_pc st a i ≡ true
  pub counts : counts_as_return (target_of st a) ≡ true

abbrev pub HasReturn : Words → Stated → ℕ → Type 0
HasReturn words st a = (i : Instr) × HasInstr words a i × IsReturn st a i

-- exactly the addresses where the graph has a place and the word returns, ascending
pub record AreReturns (words : Words) (st : Stated) (flow : Flow) (named : List ℕ) : Type 0 where
  pub ascending : IsStrictlySortedBy nat_cmp named
  pub each : (a : ℕ) → Contains named a ↔ ((is_reached flow.places a ≡ true) × HasReturn words st a)

-- ## Where one goes from one place

abbrev pub is_leave : TargetKind → Bool
is_leave Jump = false
is_leave Call = false
is_leave Return = false
is_leave Leave = true

-- it is stated to leave the handler from any call
abbrev pub leaves : Option Target → Bool
leaves None = false
leaves (Some target) = is_leave target.kind

-- the address is of the class
abbrev pub is_of : Class → ℕ → Bool
is_of Any a = true
is_of Ram a = by_class (class_of a) true false false
is_of Rom a = by_class (class_of a) false true false
is_of Io a = by_class (class_of a) false false true
is_of Slow a = by_class (class_of a) false false (speed_of a == 0)
is_of Medium a = by_class (class_of a) false false (speed_of a == 1)
is_of Fast a = by_class (class_of a) false false (speed_of a == 2)
is_of Synchronous a = by_class (class_of a) false false (speed_of a == 3)

-- an address to which a word may leave: it is of the class of leave, and either the source has no word there
-- or the word that goes there is stated to leave
abbrev pub is_outside : Words → (leave : Class) → (stated : Bool) → ℕ → Bool
is_outside words leave stated a = is_of leave a && (stated || not (is_some (word_of words a)))

-- out of the handler: to the address in R14 at the entry less so many bytes, or to an address
abbrev pub going_out : Words → (leave : Class) → (stated : Bool) → Destination → Going
going_out words leave stated Unknown = Unseen
going_out words leave stated (LinkLess bytes) = Back bytes
going_out words leave stated (To a) = if is_outside words leave stated a then Out a else Elsewhere a

-- back to the word after a call
abbrev pub going_back : (next : ℕ) → Destination → Going
going_back next Unknown = Unseen
going_back next (LinkLess bytes) = BackInside bytes
going_back next (To a) = if a == next then AfterCall else Elsewhere a

-- to the place where a return leads by the graph
abbrev pub going_by : Words → (leave : Class) → (stated : Bool) → Place → Destination → Going
going_by words leave stated Exit = going_out words leave stated
going_by words leave stated (At calls next) = going_back next

abbrev pub going_of : Words → (leave : Class) → Option Target → List ℕ → Destination → Going
going_of words leave target calls =
    going_by words leave (leaves target) (if leaves target then Exit else return_place calls)

-- ## Where one goes from all its places

-- what goes elsewhere is the gravest, and then what is not seen
abbrev pub gravity : Going → ℕ
gravity (Back bytes) = 0
gravity AfterCall = 0
gravity (Out a) = 0
gravity (BackInside bytes) = 1
gravity Unseen = 1
gravity (Elsewhere a) = 2

-- the place of the number is one of the return at the address, which goes so from there
pub record GoesFrom (words : Words) (st : Stated) (flow : Flow) (tree : Tree)
    (destinations : List Destination) (a number : ℕ) (going : Going) : Type 0 where
  pub calls : List ℕ
  pub place : place_in flow tree number ≡ At calls a
  pub returns : HasReturn words st a
  pub going_is : going ≡ going_of words st.leave (target_of st a) calls (destination_at destinations number)

-- of all numbers below the end for which there is one, the gravest, and of those as grave the first
pub record IsGravest (Goes : ℕ → Going → Type 0) (end : ℕ) (going : Going) : Type 0 where
  pub number : ℕ
  pub inside : number < end
  pub is : Goes number going
  pub most : (k : ℕ) (other : Going) → k < end → Goes k other → gravity other ≤ gravity going
  pub first : (k : ℕ) (other : Going) → k < number → Goes k other → gravity other < gravity going

-- the gravest from all places
abbrev pub IsGoing : Words → Stated → Flow → Tree → List Destination → (a : ℕ) → Going → Type 0
IsGoing words st flow tree destinations a =
    IsGravest (GoesFrom words st flow tree destinations a) (length flow.places)

-- ## Finding them, for clauses of private functions

-- a going that is not graver leaves the old one
abbrev pub graver : Option Going → Going → Going
graver None going = going
graver (Some old) going = if nat_lt (gravity old) (gravity going) then going else old

abbrev pub IsFound : (Goes : ℕ → Going → Type 0) → (end : ℕ) → Option Going → Type 0
IsFound Goes end None = (k : ℕ) (going : Going) → k < end → Goes k going → ⊥
IsFound Goes end (Some going) = IsGravest Goes end going

-- of the places below the end
abbrev pub AreFound : Words → Stated → Flow → Tree → List Destination → (end : ℕ) → (ℕ → Option Going)
    → Type 0
AreFound words st flow tree destinations end found =
    (a : ℕ) → IsFound (GoesFrom words st flow tree destinations a) end (found a)
