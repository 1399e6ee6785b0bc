-- Instances in closing order, each taken with those that it holds.
use Rattle.std.specs.Prelude.{◌≡◌, ℕ, ◌<◌, ◌≤◌, ◌⊎◌, ◌↔◌, List, [], ◌∷◌, ◌++◌, length, map, take, drop}
use Rattle.std.specs.Prelude.{slice_index, slice_index_or, Contains, All}
use Rattle.std.specs.List.Sorted.{IsNonDecreasingBy}
use Rattle.control_flow.specs.declared.places.Place.{Place}
use Rattle.control_flow.specs.Flow.{Flow}
use Rattle.statement.specs.declared.apart.ApartStretch.{ApartStretch}
use Rattle.numbered_walks.specs.declared.span.Span.{Span}
use Rattle.numbered_walks.specs.Index.{span_at}
use Rattle.loop_bounds.specs.declared.nested.Outermost.{Outermost}
use Rattle.loop_bounds.specs.Instance.{Instance}
use Rattle.loop_bounds.specs.Nested.{IsDirectlyInside, Node, heads, members, nodes}
use Rattle.loop_bounds.specs.Tree.{Tree}

-- an instance is added, and takes those that begin within it
pub record Encloses (apart : List ApartStretch) (old new : Outermost) (header : ℕ) (i : Instance)
    (places : List Place) : Type 0 where
  pub first : ℕ
  pub first_in : first ≤ length old.headers.items
  pub before : (p : ℕ) → p < first → slice_index old.headers.items p < header
  pub within : (p : ℕ) → first ≤ p → p < length old.headers.items → header ≤ slice_index old.headers.items p
  pub headers_are : new.headers.items ≡ take first old.headers.items ++ header ∷ []
  pub heads_are : heads apart new.instances.items ≡ take first (heads apart old.instances.items) ++ i ∷ []
  pub nodes_are : nodes apart new.instances.items
      ≡ nodes apart old.instances.items
      ++ record { instance = i; places = places; inner = drop first (heads apart old.instances.items) } ∷ []

abbrev pub instance_at : List Instance → ℕ → Instance
instance_at instances k =
    slice_index_or instances k
    (record { list = []; header = 0; first = 0; last = 0; bound = 0; apart = [] })

-- the span at `inner` lies in the span at `outer`, and begins after it
abbrev pub HoldsSpan : List Span → ℕ → ℕ → Type 0
HoldsSpan spans outer inner =
    ((span_at spans outer).header < (span_at spans inner).header)
    × ((span_at spans inner).last ≤ (span_at spans outer).last)

-- of the first instances those that are inside none of these, with the numbers of their headers
pub record AreOutermost (instances : List Instance) (spans : List Span) (headers : List ℕ)
    (outer : List Instance) (limit : ℕ) : Type 0 where
  pub indexes : List ℕ
  pub headers_are : headers ≡ map (λ k. (span_at spans k).header) indexes
  pub outer_are : outer ≡ map (instance_at instances) indexes
  pub below : (p : ℕ) → p < length indexes → slice_index indexes p < limit
  pub alone : (p k : ℕ) → p < length indexes → k < limit → HoldsSpan spans k (slice_index indexes p) → ⊥
  pub rest : (k : ℕ) → k < limit → Contains indexes k ⊎ ((m : ℕ) × (m < limit) × HoldsSpan spans m k)
  pub ascending : IsNonDecreasingBy (λ h. h) headers

abbrev pub IsShown : Flow → Tree → Node → Type 0
IsShown flow tree n =
    (n.places ≡ members flow tree n.instance)
    × ((i : Instance) → Contains n.inner i
    ↔ (Contains tree.instances i × IsDirectlyInside flow tree.instances i n.instance))

-- the first instances are nested
pub record AreNestedUpto (flow : Flow) (tree : Tree) (outermost : Outermost) (limit : ℕ) : Type 0 where
  pub each_once : map (λ n. n.instance) (nodes tree.apart outermost.instances.items)
      ≡ take limit tree.instances
  pub shown : All (IsShown flow tree) (nodes tree.apart outermost.instances.items)
  pub outer : AreOutermost tree.instances tree.spans outermost.headers.items
      (heads tree.apart outermost.instances.items) limit
