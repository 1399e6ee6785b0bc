-- Walks along the edges of a graph. The graph is given by a test of its edges, so that a walk means the
-- same along a list of edges and along the edges that a handler's words have.
use Rattle.std.specs.Prelude.{◌≡◌, ℕ, List, [], ◌∷◌, sum_by}

-- where an edge begins and ends, and what it costs in ticks
pub record Shape (P E : Type 0) : Type 0 where
  pub from : E → P
  pub to : E → P
  pub cost : E → ℕ

module _ {P E : Type 0} (shape : Shape P E) (is_edge : E → Type 0) where
  -- a walk: consecutive edges from the one place to the other
  abbrev pub Leads : P → List E → P → Type 0
  Leads p [] q = p ≡ q
  Leads p (e ∷ rest) q = is_edge e × (shape.from e ≡ p) × Leads (shape.to e) rest q

  -- some walk leads from the one place to the other
  abbrev pub IsReached : P → P → Type 0
  IsReached p q = (walk : List E) × Leads p walk q

  -- a walk of at least one edge that ends where it began
  pub record Cycle : Type 0 where
    pub place : P
    pub first : E
    pub rest : List E
    pub returns : Leads place (first ∷ rest) place

-- the cost of a walk, in ticks
abbrev pub cost_of : {P E : Type 0} → Shape P E → List E → ℕ
cost_of shape walk = sum_by shape.cost walk
