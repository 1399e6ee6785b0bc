-- The flow graph of a handler, and why there is none.
use Rattle.std.specs.Prelude.{◌≡◌, ℕ, ◌+◌, ◌<◌, ◌≤◌, Bool, true, false, List, [], ◌∷◌, length, Option, Some}
use Rattle.std.specs.Prelude.{None, Contains, ◌↔◌}
use Rattle.std.specs.List.{AllZip, flat_map}
use Rattle.std.specs.List.Sorted.{IsStrictlySortedBy}
use Rattle.std.specs.Map.{keys_of}
use Rattle.walks.specs.Walk as walks
use Rattle.bus_ticks.specs.declared.profile.Profile.{Profile}
use Rattle.image.specs.Image.{Words, word_of}
use Rattle.control_flow.specs.Edges.{AreEdgesOf, HasAction, IsEdge, may_do}
use Rattle.control_flow.specs.Flow.{Flow, edge_shape}
use Rattle.control_flow.specs.Kinds.{is_writer}
use Rattle.control_flow.specs.Places.{place_cmp}
use Rattle.statement.specs.Stated.{Stated, Target, taken_at, target_of}
use Rattle.control_flow.specs.declared.call_list.TheConstants.{MOST_CALLS}
use Rattle.control_flow.specs.declared.edges.Edge.{Edge}
use Rattle.control_flow.specs.declared.faults.BuildFault.{BuildFault}
use Rattle.control_flow.specs.declared.faults.BuildFault.TheVariants as fault
use Rattle.control_flow.specs.declared.actions.Action.{Action}
use Rattle.control_flow.specs.declared.actions.Kind.{Kind}
use Rattle.control_flow.specs.declared.actions.Kind.TheVariants as kind
use Rattle.control_flow.specs.declared.places.Place.{Place}
use Rattle.control_flow.specs.declared.places.Place.TheVariants.{At, Exit}
use Rattle.control_flow.specs.declared.search.TheConstants.{MOST_PLACES}
use Rattle.statement.specs.declared.stated.Returns.TheVariants as returns
use Rattle.statement.specs.declared.stated.TargetKind.{TargetKind}
use Rattle.statement.specs.declared.stated.TargetKind.TheVariants as stated

-- the handler starts at its entry, inside no calls
abbrev pub start_of : Stated → Place
start_of st = At [] st.entry

-- where the edges of each place begin when those of the places are put one after another, and where they all
-- end
abbrev pub starts_from : ℕ → List (List Edge) → List ℕ
starts_from n [] = n ∷ []
starts_from n (part ∷ parts) = n ∷ starts_from (n + length part) parts

-- ## Words that call or write R15

abbrev pub is_call : TargetKind → Bool
is_call stated.Jump = false
is_call stated.Call = true
is_call stated.Return = false
is_call stated.Leave = false

abbrev pub states_call : Option Target → Bool
states_call None = false
states_call (Some t) = is_call t.kind

-- BL, and a word that writes R15 and is stated to call
abbrev pub makes_call : Kind → Option Target → Bool
makes_call kind.Plain t = false
makes_call (kind.Branch offset) t = false
makes_call (kind.Call offset) t = true
makes_call kind.Writer t = states_call t
makes_call kind.Trap t = false
makes_call kind.Unallocated t = false

-- the image has a word at the address that writes R15, whatever its condition
abbrev pub IsWriterAt : Words → ℕ → Type 0
IsWriterAt words address = (a : Action) × HasAction words address a × (is_writer a.kind ≡ true)

-- a target is stated for the address, where no word writes R15
pub record IsStray (words : Words) (st : Stated) (address : ℕ) : Type 0 where
  pub is_stated : Contains (keys_of st.targets) address
  pub no_writer : IsWriterAt words address → ⊥

module _ (words : Words) (st : Stated) (profile : Profile) where
  -- some walk from the start ends there
  abbrev pub IsReached : Place → Type 0
  IsReached p = walks.IsReached edge_shape (IsEdge words st profile) (start_of st) p

  -- ## The graph

  -- exactly the reached places but Exit
  abbrev pub ArePlaces : List Place → Type 0
  ArePlaces places = (p : Place) → Contains places p ↔ (IsReached p × (p ≡ Exit → ⊥))

  -- exactly the reached places but Exit, ascending, and exactly the edges of each in turn
  pub record IsFlowGraph (flow : Flow) : Type 0 where
    pub entry_is : flow.entry ≡ start_of st
    pub ordered : IsStrictlySortedBy place_cmp flow.places
    pub exact : ArePlaces flow.places
    pub parts : List (List Edge)
    pub parts_are : AllZip (AreEdgesOf words st profile) flow.places parts
    pub edges_are : flow.edges ≡ flat_map (λ part. part) parts
    pub firsts_are : flow.firsts ≡ starts_from 0 parts
    pub profile_is : flow.profile ≡ profile

  -- ## Refusals

  -- the address of a reached place
  abbrev pub IsReachedAddress : ℕ → Type 0
  IsReachedAddress address = (calls : List ℕ) × IsReached (At calls address)

  -- the word at the address is of the kind, and may be done
  abbrev pub MayDo : ℕ → Kind → Type 0
  MayDo address k =
      (a : Action) × HasAction words address a × (a.kind ≡ k)
      × (may_do a.cond (taken_at st address) ≡ true)

  -- returns have to be stated, and the word at the address may be done, writes R15 and has no stated target
  pub record IsUnstated (address : ℕ) : Type 0 where
    pub asked : st.returns ≡ returns.Stated
    pub writer : MayDo address kind.Writer
    pub none : target_of st address ≡ None

  -- a call that may be done, from a reached place with the most calls
  pub record IsTooDeep : Type 0 where
    pub calls : List ℕ
    pub address : ℕ
    pub reached : IsReached (At calls address)
    pub full : MOST_CALLS ≤ length calls
    pub action : Action
    pub has : HasAction words address action
    pub is_call : makes_call action.kind (target_of st address) ≡ true
    pub may : may_do action.cond (taken_at st address) ≡ true

  -- more places are reached than a graph may have
  pub record IsCrowd : Type 0 where
    pub places : List Place
    pub ordered : IsStrictlySortedBy place_cmp places
    pub many : MOST_PLACES < length places
    pub reached : (p : Place) → Contains places p → IsReached p
    pub no_exit : Contains places Exit → ⊥

  -- when each refusal may be returned
  abbrev pub IsBuildFault : BuildFault → Type 0
  IsBuildFault fault.Memory = Unit {0}
  IsBuildFault (fault.OutsideImage address) = IsReachedAddress address × (word_of words address ≡ None)
  IsBuildFault (fault.UnallocatedWord address) = IsReachedAddress address × MayDo address kind.Unallocated
  IsBuildFault (fault.TrapInHandler address) = IsReachedAddress address × MayDo address kind.Trap
  IsBuildFault fault.TooDeep = IsTooDeep
  IsBuildFault fault.TooManyPlaces = IsCrowd
  IsBuildFault (fault.TargetNotWriter address) = IsStray words st address
  IsBuildFault (fault.UnstatedTarget address) = IsReachedAddress address × IsUnstated address
