-- The edges of a place, and their costs in ticks, with each access at its dearest within what is stated.
-- Where a word leads is the VL86C010 data sheet's; of a word that writes R15 the author states it, and where
-- nothing is stated it returns. Of a word with a condition one way may be stated not to be taken.
use Rattle.std.specs.Prelude.{◌≡◌, ℕ, ◌+◌, ◌-◌, ◌*◌, min, Bool, true, false, not, ◌&&◌, ◌||◌, cond, nat_eq}
use Rattle.std.specs.Prelude.{nat_lt, List, [], ◌∷◌, ◌++◌, length, take, map, slice_index, Option, Some, None}
use Rattle.std.specs.Prelude.{Contains}
use Rattle.arm2_decode.specs.Names.{is_always, is_never}
use Rattle.arm2_decode.specs.declared.names.Cond.{Cond}
use Rattle.arm2_effect.specs.ProgramCounter.{branch_target}
use Rattle.bus_ticks.specs.Worst.{worst_fetch_n, worst_fetch_s, worst_transfer, worst_leave}
use Rattle.bus_ticks.specs.declared.profile.Class.{Class}
use Rattle.bus_ticks.specs.declared.profile.Profile.{Profile}
use Rattle.bus_ticks.specs.Prices.{ahead_of}
use Rattle.image.specs.Image.{Words, word_of}
use Rattle.control_flow.specs.Kinds.{IsAction}
use Rattle.statement.specs.Stated.{Stated, Target, class_at, cycles_at, taken_at, target_of}
use Rattle.control_flow.specs.declared.call_list.TheConstants.{MOST_CALLS}
use Rattle.control_flow.specs.declared.edges.Edge.{Edge}
use Rattle.control_flow.specs.declared.edges.Label.{Label}
use Rattle.control_flow.specs.declared.edges.Label.TheVariants.{Skip, Do}
use Rattle.control_flow.specs.declared.actions.Action.{Action}
use Rattle.control_flow.specs.declared.actions.Kind.{Kind}
use Rattle.control_flow.specs.declared.actions.Kind.TheVariants.{Plain, Branch, Call, Writer, Trap}
use Rattle.control_flow.specs.declared.actions.Kind.TheVariants.{Unallocated}
use Rattle.control_flow.specs.declared.actions.Work.{Work}
use Rattle.control_flow.specs.declared.actions.Work.TheVariants.{Internal, Load, Store}
use Rattle.control_flow.specs.declared.places.Place.{Place}
use Rattle.control_flow.specs.declared.places.Place.TheVariants.{At, Exit}
use Rattle.statement.specs.declared.stated.Taken.{Taken}
use Rattle.statement.specs.declared.stated.Taken.TheVariants.{Always, Never}
use Rattle.statement.specs.declared.stated.TargetKind.{TargetKind}
use Rattle.statement.specs.declared.stated.TargetKind.TheVariants as stated

-- ## Where a word leads

-- a return takes the last call away and goes past it; with no call it leaves the handler
abbrev pub return_place : List ℕ → Place
return_place calls =
    cond (nat_eq (length calls) 0) Exit
    (At (take (length calls - 1) calls) (ahead_of (slice_index calls (length calls - 1)) 4))

-- at each of the addresses, inside the calls
abbrev pub places_at : List ℕ → List ℕ → List Place
places_at calls addresses = map (λ a. At calls a) addresses

-- a call appends its own address; from a place with the most calls it leads nowhere
abbrev pub call_places : List ℕ → ℕ → List ℕ → List Place
call_places calls address to =
    cond (nat_lt (length calls) MOST_CALLS) (places_at (calls ++ address ∷ []) to) []

-- a stated jump keeps the calls
abbrev pub stated_landings : List ℕ → ℕ → TargetKind → List ℕ → List Place
stated_landings calls address stated.Jump to = places_at calls to
stated_landings calls address stated.Call to = call_places calls address to
stated_landings calls address stated.Return to = return_place calls ∷ []
stated_landings calls address stated.Leave to = Exit ∷ []

-- a word that writes R15 returns where nothing is stated of it
abbrev pub writer_landings : List ℕ → ℕ → Option Target → List Place
writer_landings calls address None = return_place calls ∷ []
writer_landings calls address (Some t) = stated_landings calls address t.kind t.to

-- the places to which a word leads where its condition holds
abbrev pub landings : Stated → List ℕ → ℕ → Kind → List Place
landings st calls address Plain = At calls (ahead_of address 4) ∷ []
landings st calls address (Branch offset) = At calls (branch_target address offset) ∷ []
landings st calls address (Call offset) = call_places calls address (branch_target address offset ∷ [])
landings st calls address Writer = writer_landings calls address (target_of st address)
landings st calls address Trap = []
landings st calls address Unallocated = []

-- ## Costs in ticks

-- an instruction fetches the word after the next, which follows the access before it
abbrev pub passing_ticks : Profile → ℕ → ℕ
passing_ticks profile address = worst_fetch_s profile (ahead_of address 8)

-- but after a store it does not follow it
abbrev pub fetch_ticks : Profile → ℕ → Work → ℕ
fetch_ticks profile address (Internal cycles) = passing_ticks profile address
fetch_ticks profile address (Load words) = passing_ticks profile address
fetch_ticks profile address (Store words) = worst_fetch_n profile (ahead_of address 8)

-- besides its fetches: internal cycles, and words of the stated class
abbrev pub work_ticks : Profile → Class → Work → ℕ
work_ticks profile class (Internal cycles) = cycles * profile.internal
work_ticks profile class (Load words) = worst_transfer profile class words false + profile.internal
work_ticks profile class (Store words) = worst_transfer profile class words true

-- a word's work as stated: a multiply takes at most the stated cycles. Other words have 0 or 1 internal
-- cycles, and `cycles_at` is never below 1, so theirs stay
abbrev pub stated_work : Stated → ℕ → Work → Work
stated_work st address (Internal cycles) = Internal (min cycles (cycles_at st address))
stated_work st address (Load words) = Load words
stated_work st address (Store words) = Store words

-- a jump fetches the word at its target, and the next; out of the handler, at any address of the stated class
abbrev pub jump_ticks : Profile → Class → Place → ℕ
jump_ticks profile leave (At calls t) = worst_fetch_n profile t + worst_fetch_s profile (ahead_of t 4)
jump_ticks profile leave Exit = worst_leave profile leave

-- which words jump
abbrev pub arrival_ticks : Profile → Class → Kind → Place → ℕ
arrival_ticks profile leave Plain to = 0
arrival_ticks profile leave (Branch offset) to = jump_ticks profile leave to
arrival_ticks profile leave (Call offset) to = jump_ticks profile leave to
arrival_ticks profile leave Writer to = jump_ticks profile leave to
arrival_ticks profile leave Trap to = 0
arrival_ticks profile leave Unallocated to = 0

-- what a word costs where its condition holds
abbrev pub do_ticks : Stated → Profile → ℕ → Action → Place → ℕ
do_ticks st profile address action to =
    fetch_ticks profile address action.work
    + work_ticks profile (class_at st address action.base) (stated_work st address action.work)
    + arrival_ticks profile st.leave action.kind to

-- ## Ways

abbrev pub is_always_taken : Option Taken → Bool
is_always_taken None = false
is_always_taken (Some Always) = true
is_always_taken (Some Never) = false

abbrev pub is_never_taken : Option Taken → Bool
is_never_taken None = false
is_never_taken (Some Always) = false
is_never_taken (Some Never) = true

-- a word may be passed over unless its condition always holds, or is stated always to hold. Under AL and NV
-- what is stated has no effect
abbrev pub may_skip : Cond → Option Taken → Bool
may_skip c taken = not (is_always c) && (is_never c || not (is_always_taken taken))

-- a word may be done unless its condition never holds, or is stated never to hold
abbrev pub may_do : Cond → Option Taken → Bool
may_do c taken = not (is_never c) && (is_always c || not (is_never_taken taken))

-- whether the word may be passed over, or done
abbrev pub may_go : Label → Cond → Option Taken → Bool
may_go Skip c taken = may_skip c taken
may_go Do c taken = may_do c taken

-- ## Edges

abbrev pub skip_edge : Profile → List ℕ → ℕ → Edge
skip_edge profile calls address =
    record {
      from = At calls address;
      label = Skip;
      to = At calls (ahead_of address 4);
      cost = passing_ticks profile address;
    }

abbrev pub do_edge : Stated → Profile → List ℕ → ℕ → Action → Place → Edge
do_edge st profile calls address action to =
    record { from = At calls address; label = Do; to = to; cost = do_ticks st profile address action to }

abbrev pub skip_edges : Stated → Profile → List ℕ → ℕ → Action → List Edge
skip_edges st profile calls address action =
    cond (may_skip action.cond (taken_at st address)) (skip_edge profile calls address ∷ []) []

abbrev pub landing_edges : Stated → Profile → List ℕ → ℕ → Action → List Edge
landing_edges st profile calls address action =
    map (do_edge st profile calls address action) (landings st calls address action.kind)

abbrev pub do_edges : Stated → Profile → List ℕ → ℕ → Action → List Edge
do_edges st profile calls address action =
    cond (may_do action.cond (taken_at st address)) (landing_edges st profile calls address action) []

abbrev pub word_edges : Stated → Profile → List ℕ → ℕ → Action → List Edge
word_edges st profile calls address action =
    skip_edges st profile calls address action ++ do_edges st profile calls address action

-- the image has a word at the address, which does this
pub record HasAction (words : Words) (address : ℕ) (action : Action) : Type 0 where
  pub word : ℕ
  pub word_is : word_of words address ≡ Some word
  pub is : IsAction word action

module _ (words : Words) (st : Stated) (profile : Profile) where
  -- the edges that a place has by its word
  abbrev pub AreEdgesOf : Place → List Edge → Type 0
  AreEdgesOf (At calls address) edges =
      (action : Action) × HasAction words address action
      × (edges ≡ word_edges st profile calls address action)
  AreEdgesOf Exit edges = edges ≡ []

  -- one of the edges that its first place has
  abbrev pub IsEdge : Edge → Type 0
  IsEdge e = (edges : List Edge) × AreEdgesOf e.from edges × Contains edges e
