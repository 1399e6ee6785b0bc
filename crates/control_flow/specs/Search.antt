-- What the search for places knows on its way.
use Rattle.std.specs.Prelude.{◌≡◌, ℕ, ◌<◌, ◌≤◌, cond, nat_lt, List, [], ◌∷◌, ◌++◌, length, map, reverse}
use Rattle.std.specs.Prelude.{slice_index_or}
use Rattle.std.specs.Prelude.{Option, Some, None, Contains, IsTrue, ◌↔◌, ◌⊎◌}
use Rattle.std.specs.List.{AllZip, flat_map}
use Rattle.std.specs.List.Sorted.{IsStrictlySortedBy}
use Rattle.std.specs.BTreeSet.{BTreeSet, contains, btree_set_len}
use Rattle.std.specs.declared.cmp.Ordering.{Ordering}
use Rattle.std.specs.declared.cmp.Reverse.{Reverse}
use Rattle.bus_ticks.specs.declared.profile.Profile.{Profile}
use Rattle.image.specs.Image.{Words, word_of}
use Rattle.control_flow.specs.Edges.{AreEdgesOf, HasAction, may_do}
use Rattle.control_flow.specs.Graph.{IsReached, start_of, starts_from}
use Rattle.control_flow.specs.Places.{place_cmp}
use Rattle.statement.specs.Stated.{Stated, Target, taken_at, target_of}
use Rattle.control_flow.specs.contracts.places.PlaceOrd.TheImpl as PlaceOrder
use Rattle.control_flow.specs.declared.call_list.TheConstants.{MOST_CALLS}
use Rattle.control_flow.specs.declared.edges.Edge.{Edge}
use Rattle.control_flow.specs.declared.faults.BuildFault.{BuildFault}
use Rattle.control_flow.specs.declared.faults.BuildFault.TheVariants as fault
use Rattle.control_flow.specs.declared.actions.Action.{Action}
use Rattle.control_flow.specs.declared.actions.Kind.{Kind}
use Rattle.control_flow.specs.declared.actions.Kind.TheVariants as kind
use Rattle.control_flow.specs.declared.places.Place.{Place}
use Rattle.control_flow.specs.declared.places.Place.TheVariants.{At, Exit}
use Rattle.control_flow.specs.declared.search.TheConstants.{MOST_PLACES}
use Rattle.statement.specs.declared.stated.Returns.{Returns}
use Rattle.statement.specs.declared.stated.Returns.TheVariants as returns
use Rattle.statement.specs.declared.stated.TargetKind.{TargetKind}
use Rattle.statement.specs.declared.stated.TargetKind.TheVariants as stated

-- ## Places found

-- the order by which the program compares places
abbrev pub by_order : Place → Place → Ordering
by_order = (PlaceOrder.ghosts).cmp

-- and the other way round, that of the set of places
abbrev pub downwards : Reverse Place → Reverse Place → Ordering
downwards x y = by_order y.0 x.0

-- a place as a key of the set
abbrev pub in_set : Place → Reverse Place
in_set q = record { 0 = q }

-- of a list that ascends by a reversed order the members, the least first
abbrev pub ascending : {K : Type 0} → List (Reverse K) → List K
ascending ks = map (λ r. r.0) (reverse ks)

-- the places of the set, ascending
abbrev pub places_in : BTreeSet (Reverse Place) → List Place
places_in seen = ascending seen.keys

-- the set and the list have the same places, each once, and not Exit
pub record IsFound (seen : BTreeSet (Reverse Place)) (order : List Place) : Type 0 where
  pub same : (q : Place) → (IsTrue (contains downwards seen (in_set q))) ↔ Contains order q
  pub count : length order ≡ btree_set_len seen
  pub few : length order ≤ MOST_PLACES
  pub no_exit : Contains order Exit → ⊥

-- one more place, unless it is in the list or is Exit
abbrev pub Adds : List Place → Place → List Place → Type 0
Adds old p new = ((new ≡ old) × ((p ≡ Exit) ⊎ Contains old p)) ⊎ (new ≡ old ++ p ∷ [])

-- with this place there are more than a graph may have
pub record IsCrowded (old : List Place) (p : Place) : Type 0 where
  pub places : List Place
  pub ordered : IsStrictlySortedBy place_cmp places
  pub many : MOST_PLACES < length places
  pub among : (q : Place) → Contains places q → Contains old q ⊎ (p ≡ q)
  pub inside : p ≡ Exit → ⊥

-- the place is where one of the edges ends
abbrev pub EndsOne : List Edge → Place → Type 0
EndsOne edges q = (e : Edge) × Contains edges e × (e.to ≡ q)

abbrev pub IsIn : List Place → Place → Type 0
IsIn order q = (q ≡ Exit) ⊎ Contains order q

-- the list with the ends of the edges that it lacks
pub record Grows (old : List Place) (edges : List Edge) (new : List Place) : Type 0 where
  pub more : (ps : List Place) × (new ≡ old ++ ps)
  pub from : (q : Place) → Contains new q → Contains old q ⊎ EndsOne edges q
  pub to : (e : Edge) → Contains edges e → IsIn new e.to

-- with the ends of the edges there are more than a graph may have
pub record IsCrowdedBy (old : List Place) (edges : List Edge) : Type 0 where
  pub places : List Place
  pub ordered : IsStrictlySortedBy place_cmp places
  pub many : MOST_PLACES < length places
  pub among : (q : Place) → Contains places q → Contains old q ⊎ EndsOne edges q
  pub no_exit : Contains places Exit → ⊥

-- ## Edges of one place

-- why a call is refused
abbrev pub call_fault : List ℕ → Option BuildFault
call_fault calls = cond (nat_lt (length calls) MOST_CALLS) None (Some fault.TooDeep)

abbrev pub stated_fault : List ℕ → TargetKind → Option BuildFault
stated_fault calls stated.Jump = None
stated_fault calls stated.Call = call_fault calls
stated_fault calls stated.Return = None
stated_fault calls stated.Leave = None

-- where no target is stated
abbrev pub unstated_fault : Returns → ℕ → Option BuildFault
unstated_fault returns.Assumed address = None
unstated_fault returns.Stated address = Some (fault.UnstatedTarget address)

abbrev pub writer_fault : Returns → List ℕ → ℕ → Option Target → Option BuildFault
writer_fault asked calls address None = unstated_fault asked address
writer_fault asked calls address (Some t) = stated_fault calls t.kind

-- why a word that is done is refused
abbrev pub kind_fault : Stated → List ℕ → ℕ → Kind → Option BuildFault
kind_fault st calls address kind.Plain = None
kind_fault st calls address (kind.Branch offset) = None
kind_fault st calls address (kind.Call offset) = call_fault calls
kind_fault st calls address kind.Writer = writer_fault st.returns calls address (target_of st address)
kind_fault st calls address kind.Trap = Some (fault.TrapInHandler address)
kind_fault st calls address kind.Unallocated = Some (fault.UnallocatedWord address)

abbrev pub action_fault : Stated → List ℕ → ℕ → Action → Option BuildFault
action_fault st calls address action =
    cond (may_do action.cond (taken_at st address)) (kind_fault st calls address action.kind) None

-- the place has an image word that is not refused
abbrev pub IsSound : Words → Stated → Place → Type 0
IsSound words st (At calls address) =
    (action : Action) × HasAction words address action × (action_fault st calls address action ≡ None)
IsSound words st Exit = Unit {0}

-- why the place has no edges
abbrev pub IsPlaceFault : Words → Stated → Place → BuildFault → Type 0
IsPlaceFault words st (At calls address) f =
    ((word_of words address ≡ None) × (f ≡ fault.OutsideImage address))
    ⊎ ((action : Action) × HasAction words address action × (action_fault st calls address action ≡ Some f))
IsPlaceFault words st Exit f = ⊥

abbrev pub IsEdgeFault : Words → Stated → Place → BuildFault → Type 0
IsEdgeFault words st place f = (f ≡ fault.Memory) ⊎ IsPlaceFault words st place f

module _ (words : Words) (st : Stated) (profile : Profile) where
  -- new is old with the edges of the place
  pub record AddsEdges (place : Place) (old new : List Edge) : Type 0 where
    pub edges : List Edge
    pub are : AreEdgesOf words st profile place edges
    pub is : new ≡ old ++ edges

  -- ## The search

  -- the place is not refused, and its edges end at known places
  pub record IsDone (order : List Place) (p : Place) : Type 0 where
    pub sound : IsSound words st p
    pub edges : List Edge
    pub are : AreEdgesOf words st profile p edges
    pub closed : (e : Edge) → Contains edges e → IsIn order e.to

  -- what the search knows when the first places of the list are done
  pub record IsSearch (order : List Place) (next : ℕ) : Type 0 where
    pub bound : next ≤ length order
    pub entry : Contains order (start_of st)
    pub reached : (q : Place) → Contains order q → IsReached words st profile q
    pub done : (k : ℕ) (d : Place) → k < next → IsDone order (slice_index_or order k d)

  -- the places to which a place leads are added, and it is not refused
  pub record IsVisited (old : List Place) (p : Place) (new : List Place) : Type 0 where
    pub sound : IsSound words st p
    pub edges : List Edge
    pub are : AreEdgesOf words st profile p edges
    pub grows : Grows old edges new

  -- why the places to which a place leads are not added
  abbrev pub IsVisitFault : List Place → Place → BuildFault → Type 0
  IsVisitFault order p f =
      IsEdgeFault words st p f
      ⊎ ((f ≡ fault.TooManyPlaces) × (edges : List Edge) × AreEdgesOf words st profile p edges
      × IsCrowdedBy order edges)

  -- no reason to refuse
  pub record IsAllowed (places : List Place) : Type 0 where
    pub few : length places ≤ MOST_PLACES
    pub sound : (p : Place) → Contains places p → IsSound words st p

  -- ## Edges of all places

  -- the edges of the places in turn, and where those of each begin
  pub record AreInTurn (places : List Place) (edges : List Edge) (firsts : List ℕ) : Type 0 where
    pub parts : List (List Edge)
    pub parts_are : AllZip (AreEdgesOf words st profile) places parts
    pub edges_are : edges ≡ flat_map (λ part. part) parts
    pub firsts_are : firsts ≡ starts_from 0 parts

-- why the edges of the places are not put one after another
abbrev pub IsTurnFault : Words → Stated → List Place → BuildFault → Type 0
IsTurnFault words st places f =
    (f ≡ fault.Memory) ⊎ ((p : Place) × Contains places p × IsPlaceFault words st p f)
