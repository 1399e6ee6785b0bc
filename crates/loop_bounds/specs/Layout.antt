-- The order in which the members of each instance are together and every edge but the back edges goes up.
use Rattle.std.specs.Prelude.{◌≡◌, ◌≢◌, ℕ, ◌+◌, ◌<◌, ◌≤◌, Bool, true, false, nat_eq, ◌&&◌, List, [], ◌∷◌}
use Rattle.std.specs.Prelude.{◌++◌, length, map, take, filter, Contains, slice_index, slice_index_or, Option}
use Rattle.std.specs.Prelude.{Some, None, AllPairs, Vec, count_by}
use Rattle.std.specs.Global.{Global}
use Rattle.std.specs.Ordering.{nat_cmp, ordering_then, is_lt}
use Rattle.std.specs.Cmp.Lexicographic.{slice_cmp}
use Rattle.std.specs.declared.cmp.Ordering.{Ordering}
use Rattle.std.specs.List.Sorted.{IsPermutation, IsSortedBy}
use Rattle.walks.specs.Walk.{Cycle}
use Rattle.walks.specs.declared.limits.TheConstants.{MOST_INSTANCES}
use Rattle.numbered_walks.specs.declared.span.NumberedEdge.{NumberedEdge}
use Rattle.loop_bounds.specs.declared.extents.Extent.{Extent}
use Rattle.loop_bounds.specs.declared.layout.Keyed.{Keyed}
use Rattle.loop_bounds.specs.declared.loop_instances.LoopInstance.{LoopInstance}
use Rattle.numbered_walks.specs.declared.span.Span.{Span}
use Rattle.control_flow.specs.declared.places.Place.{Place}
use Rattle.control_flow.specs.Places.{place_at}
use Rattle.loop_bounds.specs.declared.fault.NestFault.{NestFault}
use Rattle.loop_bounds.specs.declared.fault.NestFault.TheVariants.{Memory, LoopsCross, SharedHeader}
use Rattle.loop_bounds.specs.declared.fault.NestFault.TheVariants.{EntersMidLoop, UnboundedCycle}
use Rattle.loop_bounds.specs.declared.fault.NestFault.TheVariants.{NestedTooDeep}
use Rattle.numbered_walks.specs.Ordered.{number_shape}
use Rattle.loop_bounds.specs.Extents.{is_within, extent_at}
use Rattle.loop_bounds.specs.Keys.{is_before}

-- ## Back edges

-- from a member to the header
abbrev pub is_back_of : NumberedEdge → Extent → Bool
is_back_of e s = nat_eq e.to s.header && is_within s e.from

abbrev pub IsBack : List Extent → NumberedEdge → Type 0
IsBack extents e = (s : Extent) × Contains extents s × (is_back_of e s ≡ true)

-- the edges that are no back edges
pub record ArePlain (extents : List Extent) (edges plain : List NumberedEdge) : Type 0 where
  pub sound : (e : NumberedEdge) → Contains plain e → Contains edges e × (IsBack extents e → ⊥)
  pub complete : (e : NumberedEdge) → Contains edges e → (IsBack extents e → ⊥) → Contains plain e

-- of the first extents one whose header is at the position, or none has it there
abbrev pub IsHeaderOf : List Extent → ℕ → ℕ → Option ℕ → Type 0
IsHeaderOf extents limit p None = (k : ℕ) → k < limit → (extent_at extents k).header ≢ p
IsHeaderOf extents limit p (Some k) = (k < limit) × ((extent_at extents k).header ≡ p)

-- for each position such an extent
pub record AreHeaders (extents : List Extent) (limit nodes : ℕ) (headers : List (Option ℕ)) : Type 0 where
  pub whole : length headers ≡ nodes
  pub each : (p : ℕ) → p < nodes → IsHeaderOf extents limit p (slice_index_or headers p None)

-- ## Entries

-- each extent is entered at its header alone
pub record IsEnteredRight (edges : List NumberedEdge) (entry : ℕ) (extents : List Extent) : Type 0 where
  pub entered : (e : NumberedEdge) → Contains edges e → (s : Extent) → Contains extents s
      → is_within s e.from ≡ false → is_within s e.to ≡ true → e.to ≡ s.header
  pub entry_at_header : (s : Extent) → Contains extents s → is_within s entry ≡ true → entry ≡ s.header

-- an extent that shares a position with a later one holds it
abbrev pub HoldsLater : Extent → Extent → Type 0
HoldsLater s t =
    (p : ℕ) → is_within s p ≡ true → is_within t p ≡ true → (q : ℕ) → is_within t q ≡ true
    → is_within s q ≡ true

abbrev pub HoldLater : List Extent → Type 0
HoldLater extents = AllPairs HoldsLater extents

-- where the edges of the first nodes begin
pub record AreFirsts (edges : List NumberedEdge) (firsts : List ℕ) (limit : ℕ) : Type 0 where
  pub same : length firsts ≡ limit
  pub inside : (v : ℕ) → v < limit → slice_index firsts v ≤ length edges
  pub below : (v k : ℕ) (d : NumberedEdge) → v < limit → k < slice_index firsts v
      → (slice_index_or edges k d).from < v
  pub from : (v k : ℕ) (d : NumberedEdge) → v < limit → slice_index firsts v ≤ k → k < length edges
      → v ≤ (slice_index_or edges k d).from

-- of the first nodes of an order, how many come after each, and itself
pub record AreHeights (order heights : List ℕ) (nodes limit : ℕ) : Type 0 where
  pub whole : length heights ≡ nodes
  pub each : (k : ℕ) → k < limit → slice_index heights (slice_index order k) + k ≡ length order

-- ## Ranks

-- each edge that is no back edge goes up
abbrev pub IsRank : List NumberedEdge → List Extent → (ℕ → ℕ) → Type 0
IsRank edges extents rank =
    (e : NumberedEdge) → Contains edges e → (IsBack extents e → ⊥) → rank e.from < rank e.to

-- the ranks of positions, each another
pub record AreRanks (exit : ℕ) (edges : List NumberedEdge) (extents : List Extent)
    (ranks : List ℕ) : Type 0 where
  pub whole : length ranks ≡ exit + 1
  pub up : IsRank edges extents (slice_index ranks)
  pub once : (p q : ℕ) → p < exit → q < exit → slice_index ranks p ≡ slice_index ranks q → p ≡ q

-- ## Keys by ranks

-- the ranks of the headers of the extents that hold the position, the outermost first
abbrev pub headers_in : (ℕ → ℕ) → List Extent → ℕ → List ℕ
headers_in rank extents p = map (λ s. rank s.header) (filter (λ s. is_within s p) extents)

-- and then its own
abbrev pub key_in : (ℕ → ℕ) → List Extent → ℕ → List ℕ
key_in rank extents p = headers_in rank extents p ++ rank p ∷ []

-- of each extent the ranks of the headers of those that hold it, itself the last
abbrev pub AreChains : (ℕ → ℕ) → List Extent → List (List ℕ) → ℕ → Type 0
AreChains rank extents chains limit =
    (k : ℕ) → k < limit
    → slice_index_or chains k [] ≡ headers_in rank (take (k + 1) extents) (extent_at extents k).first

-- ## The order

-- of the first that are keyed in turn, the position of each
pub record ArePositions (keyed : List Keyed) (order : List ℕ) (limit : ℕ) : Type 0 where
  pub same : length order ≡ limit
  pub each : (k : ℕ) (d : Keyed) → k < limit → slice_index order k ≡ (slice_index_or keyed k d).position

-- each position once, and Exit's last, ascending by key
pub record IsLaidOut (key : ℕ → List ℕ) (exit : ℕ) (order : List ℕ) : Type 0 where
  pub whole : length order ≡ exit + 1
  pub exit_last : slice_index order exit ≡ exit
  pub inside : (n : ℕ) → n < exit → slice_index order n < exit
  pub all : (p : ℕ) → p < exit → (n : ℕ) × (n < exit) × (slice_index order n ≡ p)
  pub once : (m n : ℕ) → m < n → n < length order → slice_index order m ≡ slice_index order n → ⊥
  pub ascending : (m n : ℕ) → m ≤ n → n < exit
      → is_before (key (slice_index order n)) (key (slice_index order m)) ≡ false

-- of the first positions of an order, the number of each
pub record AreNumbers (order numbers : List ℕ) (limit : ℕ) : Type 0 where
  pub whole : length numbers ≡ length order
  pub each : (n : ℕ) → n < limit → slice_index numbers (slice_index order n) ≡ n

-- ## Faults of positions

-- no two headers are one
abbrev pub HaveApartHeaders : List Extent → Type 0
HaveApartHeaders extents =
    (s t : Extent) → Contains extents s → Contains extents t → s.header ≡ t.header → s ≡ t

-- a cycle without a back edge
abbrev pub IsRankFault : List NumberedEdge → List Extent → NestFault → Type 0
IsRankFault edges extents Memory = Unit {0}
IsRankFault edges extents UnboundedCycle = Cycle number_shape (λ e. Contains edges e × (IsBack extents e → ⊥))
IsRankFault edges extents LoopsCross = ⊥
IsRankFault edges extents SharedHeader = ⊥
IsRankFault edges extents EntersMidLoop = ⊥
IsRankFault edges extents NestedTooDeep = ⊥

abbrev pub depth_at : List Extent → ℕ → ℕ
depth_at extents p = count_by (λ s. is_within s p) extents

-- no position lies in more than sixteen extents
abbrev pub AreShallow : List Extent → Type 0
AreShallow extents = (p : ℕ) → depth_at extents p ≤ MOST_INSTANCES

-- an extent's first position lies in more than sixteen
abbrev pub IsChainFault : List Extent → NestFault → Type 0
IsChainFault extents Memory = Unit {0}
IsChainFault extents NestedTooDeep =
    (k : ℕ) × (k < length extents) × (MOST_INSTANCES < depth_at extents (extent_at extents k).first)
IsChainFault extents LoopsCross = ⊥
IsChainFault extents SharedHeader = ⊥
IsChainFault extents EntersMidLoop = ⊥
IsChainFault extents UnboundedCycle = ⊥

-- the chain of an extent, or of none
abbrev pub chain_of : List (List ℕ) → Option ℕ → List ℕ
chain_of chains None = []
chain_of chains (Some k) = slice_index_or chains k []

abbrev pub items_of : List (Vec ℕ Global) → List (List ℕ)
items_of chains = map (λ v. v.items) chains

-- ## Keys with their positions

-- the key that is kept by the chain of the innermost extent
abbrev pub kept_key : List (List ℕ) → Keyed → List ℕ
kept_key chains k = chain_of chains k.inner ++ k.rank ∷ []

-- number by number, a prefix first
abbrev pub by_keys : List (List ℕ) → Keyed → Keyed → Ordering
by_keys chains j k = slice_cmp nat_cmp (kept_key chains j) (kept_key chains k)

-- the positions in turn, each with its key
pub record AreKeyed (key : ℕ → List ℕ) (chains : List (List ℕ)) (exit : ℕ) (keyed : List Keyed) : Type 0 where
  pub same : length keyed ≡ exit
  pub each : (p : ℕ) (d : Keyed) → p < exit
      → (kept_key chains (slice_index_or keyed p d) ≡ key p) × ((slice_index_or keyed p d).position ≡ p)

-- ## New numbers

pub record Moves (numbers : List ℕ) (e n : NumberedEdge) : Type 0 where
  pub from_is : n.from ≡ slice_index numbers e.from
  pub to_is : n.to ≡ slice_index numbers e.to
  pub cost_is : n.cost ≡ e.cost

-- the edges in turn, between the new numbers
pub record AreMoved (numbers : List ℕ) (edges moved : List NumberedEdge) (limit : ℕ) : Type 0 where
  pub same : length moved ≡ limit
  pub each : (k : ℕ) (e : NumberedEdge) (n : NumberedEdge) → k < limit
      → Moves numbers (slice_index_or edges k e) (slice_index_or moved k n)

-- the span begins with the header's number, and ends with the greatest of a member
pub record IsShown (numbers : List ℕ) (s : Extent) (bound : ℕ) (span : Span) : Type 0 where
  pub header_is : span.header ≡ slice_index numbers s.header
  pub most : (p : ℕ) → s.first ≤ p → p < s.end → slice_index numbers p ≤ span.last
  pub attained : (p : ℕ) × (s.first ≤ p) × (p < s.end) × (slice_index numbers p ≡ span.last)
  pub bound_is : span.bound ≡ bound

-- the spans of the first extents in turn, with their instances
pub record AreSpans (numbers : List ℕ) (found : List LoopInstance) (extents : List Extent)
    (spans : List (Span × ℕ)) (limit : ℕ) : Type 0 where
  pub same : length spans ≡ limit
  pub named : (k : ℕ) (s : Extent) (x : Span × ℕ) → k < limit
      → (slice_index_or spans k x).1 ≡ (slice_index_or extents k s).instance
  pub shown : (k : ℕ) (s : Extent) (d : LoopInstance) (x : Span × ℕ) → k < limit
      → IsShown numbers (slice_index_or extents k s)
      (slice_index_or found (slice_index_or extents k s).instance d).stated.bound (slice_index_or spans k x).0

-- by their last numbers, and then by their headers downwards
abbrev pub opens_after : Span × ℕ → Span × ℕ → Bool
opens_after x y = is_lt (ordering_then (nat_cmp x.0.last y.0.last) (nat_cmp y.0.header x.0.header))

-- the spans of the extents with their instances, the inner ones first
pub record AreShown (numbers : List ℕ) (found : List LoopInstance) (extents : List Extent)
    (spans : List (Span × ℕ)) : Type 0 where
  pub turn : List (Span × ℕ)
  pub turn_is : AreSpans numbers found extents turn (length extents)
  pub moved : IsPermutation turn spans
  pub sorted : IsSortedBy opens_after spans

-- of the first numbers, the index of each one's place among the places
pub record AreIndexes (places listed : List Place) (order indexes : List ℕ) (limit : ℕ) : Type 0 where
  pub same : length indexes ≡ limit
  pub inside : (n : ℕ) → n < limit → slice_index indexes n < length places
  pub each : (n : ℕ) → n < limit
      → place_at places (slice_index indexes n) ≡ place_at listed (slice_index order n)

-- the index of each number's place among the places, and at the end their number
pub record ArePlaced (places listed : List Place) (order indexes : List ℕ) : Type 0 where
  pub whole : length indexes ≡ length places + 1
  pub exit_last : slice_index indexes (length places) ≡ length places
  pub inside : (n : ℕ) → n < length places → slice_index indexes n < length places
  pub each : (n : ℕ) → n < length places
      → place_at places (slice_index indexes n) ≡ place_at listed (slice_index order n)

-- the instances that are named, and the spans, of the first pairs
pub record AreParted (found : List LoopInstance) (closing : List (Span × ℕ)) (instances : List LoopInstance)
    (spans : List Span) (limit : ℕ) : Type 0 where
  pub same : length instances ≡ limit
  pub spans_are : spans ≡ map (λ x. x.0) (take limit closing)
  pub named : (k : ℕ) (d : LoopInstance) (x : Span × ℕ) → k < limit
      → slice_index_or instances k d ≡ slice_index_or found (slice_index_or closing k x).1 d
