-- Walks that keep the bounds of loops, and the greatest cost of a complete one.
use Rattle.std.specs.Prelude.{◌≡◌, ℕ, ◌≤◌, Bool, ◌&&◌, List}
use Rattle.walks.specs.declared.limits.TheConstants.{COST_LIMIT}
use Rattle.walks.specs.Walk.{Shape, Leads, cost_of}
use Rattle.walks.specs.Stretch.{Keeps}

-- the members, the header and the bound of an instance of a loop
pub record Loops (P I : Type 0) : Type 0 where
  pub is_member : I → P → Bool
  pub is_header : I → P → Bool
  pub bound : I → ℕ

module _ {P E I : Type 0} (shape : Shape P E) (loops : Loops P I) where
  -- both ends are members of the instance
  abbrev pub is_inside : I → E → Bool
  is_inside i e = loops.is_member i (shape.from e) && loops.is_member i (shape.to e)

  -- the edge ends at the instance's header
  abbrev pub ends_at_header : I → E → Bool
  ends_at_header i e = loops.is_header i (shape.to e)

  -- a back edge of the instance leads from a member to the header
  abbrev pub is_back_edge : I → E → Bool
  is_back_edge i e = loops.is_member i (shape.from e) && loops.is_header i (shape.to e)

  -- each stay, an unbroken stretch of the walk among the members, takes at most `bound` back edges
  abbrev pub KeepsBound : I → List E → Type 0
  KeepsBound i walk = Keeps (is_inside i) (ends_at_header i) (loops.bound i) walk

  -- the walk keeps the bound of each instance
  abbrev pub KeepsBounds : (I → Type 0) → List E → Type 0
  KeepsBounds is_instance walk = (i : I) → is_instance i → KeepsBound i walk

module _ {P E : Type 0} (shape : Shape P E) (is_edge : E → Type 0) (keeps : List E → Type 0)
    (entry exit : P) where
  -- from the entry to the exit
  abbrev pub IsComplete : List E → Type 0
  IsComplete walk = Leads shape is_edge entry walk exit

  -- n is the most that a complete walk within the bounds costs, and one does
  pub record IsGreatest (n : ℕ) : Type 0 where
    pub walk : List E
    pub complete : IsComplete walk
    pub kept : keeps walk
    pub costs : cost_of shape walk ≡ n
    pub upper : (other : List E) → IsComplete other → keeps other → cost_of shape other ≤ n

  -- some walk from the entry, wherever it ends, keeps the bounds and costs 2^63 ticks or more
  pub record TooLarge : Type 0 where
    pub place : P
    pub walk : List E
    pub leads : Leads shape is_edge entry walk place
    pub kept : keeps walk
    pub costs : COST_LIMIT ≤ cost_of shape walk
