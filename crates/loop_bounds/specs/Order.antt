-- Orders of numbered nodes in which every edge leads to an earlier node.
use Rattle.std.specs.Prelude.{◌≡◌, ℕ, ◌<◌, List, length, Contains, slice_index}
use Rattle.numbered_walks.specs.declared.span.NumberedEdge.{NumberedEdge}
use Rattle.loop_bounds.specs.declared.fault.NestFault.{NestFault}
use Rattle.loop_bounds.specs.declared.fault.NestFault.TheVariants.{Memory, LoopsCross, SharedHeader}
use Rattle.loop_bounds.specs.declared.fault.NestFault.TheVariants.{EntersMidLoop, UnboundedCycle}
use Rattle.loop_bounds.specs.declared.fault.NestFault.TheVariants.{NestedTooDeep}
use Rattle.numbered_walks.specs.Ordered.{number_shape}
use Rattle.walks.specs.Walk.{Cycle}

-- each node once, and after all to which it has an edge
pub record IsOrder (nodes : ℕ) (edges : List NumberedEdge) (order : List ℕ) : Type 0 where
  pub all : (v : ℕ) → v < nodes → (k : ℕ) × (k < length order) × (slice_index order k ≡ v)
  pub inside : (k : ℕ) → k < length order → slice_index order k < nodes
  pub forward : (k : ℕ) (e : NumberedEdge) → k < length order → Contains edges e
      → e.from ≡ slice_index order k → (m : ℕ) × (m < k) × (slice_index order m ≡ e.to)
  pub distinct : (j m : ℕ) → m < j → j < length order → slice_index order m ≡ slice_index order j → ⊥

-- there is no order where the edges have a cycle
abbrev pub IsOrderFault : List NumberedEdge → NestFault → Type 0
IsOrderFault edges Memory = Unit {0}
IsOrderFault edges UnboundedCycle = Cycle number_shape (Contains edges)
IsOrderFault edges LoopsCross = ⊥
IsOrderFault edges SharedHeader = ⊥
IsOrderFault edges EntersMidLoop = ⊥
IsOrderFault edges NestedTooDeep = ⊥
