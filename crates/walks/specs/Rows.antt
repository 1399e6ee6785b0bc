-- The rows of a certificate: what each edge asks of the numbers at its ends.
use Rattle.std.specs.Prelude.{◌≡◌, ℕ, ◌+◌, ◌*◌, ◌<◌, ◌≤◌, Bool, false, cond, nat_eq, not, ◌&&◌, List}
use Rattle.std.specs.Prelude.{sum_by, Contains, Option, Some, None, IfSome}
use Rattle.std.specs.List.{find}
use Rattle.walks.specs.declared.limits.TheConstants.{COST_LIMIT}
use Rattle.walks.specs.Walk.{Shape}
use Rattle.walks.specs.Greatest.{Loops}

-- the bound, the distance of each place, and of each instance the arrival at its header and the cost of a
-- round
pub record Potentials (P I : Type 0) : Type 0 where
  pub bound : ℕ
  pub distance : P → ℕ
  pub arrival : I → ℕ
  pub round : I → ℕ

module _ {P E I : Type 0} (shape : Shape P E) (loops : Loops P I) where
  -- the edge leaves the instance
  abbrev pub is_left : E → I → Bool
  is_left e i = loops.is_member i (shape.from e) && not (loops.is_member i (shape.to e))

  module _ (tree : List I) (c : Potentials P I) where
    -- what a walk has spent in an instance, once all its rounds are taken
    abbrev pub stay_of : I → ℕ
    stay_of i = c.arrival i + loops.bound i * c.round i

    -- what the edge's row asks a number to be at least
    abbrev pub needed : E → ℕ
    needed e = c.distance (shape.from e) + sum_by (λ i. cond (is_left e i) (stay_of i) 0) tree + shape.cost e

    module _ (is_exit : P → Bool) where
      -- the number at an edge to the header of this instance: none for a back edge of bound 0
      abbrev pub header_limit : E → I → Option ℕ
      header_limit e i =
          cond (loops.is_member i (shape.from e)) (cond (nat_eq (loops.bound i) 0) None (Some (c.round i)))
          (Some (c.arrival i))

      -- the number at an edge to a place that is no header
      abbrev pub place_limit : E → ℕ
      place_limit e = cond (is_exit (shape.to e)) c.bound (c.distance (shape.to e))

      abbrev pub limit_at : E → Option I → Option ℕ
      limit_at e None = Some (place_limit e)
      limit_at e (Some i) = header_limit e i

      -- the number that the edge's row is about, if it has a row
      abbrev pub limit_of : E → Option ℕ
      limit_of e = limit_at e (find (λ i. loops.is_header i (shape.to e)) tree)

      abbrev pub RowHolds : E → Type 0
      RowHolds e = IfSome (limit_of e) (λ n. needed e ≤ n)

      -- what the row asks for is below 2^63, if there is a row
      abbrev pub RowFits : E → Type 0
      RowFits e = IfSome (limit_of e) (λ _. needed e < COST_LIMIT)

      abbrev pub RowsHold : (E → Type 0) → Type 0
      RowsHold is_edge = (e : E) → is_edge e → RowHolds e

      abbrev pub RowsFit : (E → Type 0) → Type 0
      RowsFit is_edge = (e : E) → is_edge e → RowFits e

-- no number of the one is more than that of the other; Exit has no distance
pub record IsAtMost {P I : Type 0} (is_exit : P → Bool) (tree : List I)
    (c other : Potentials P I) : Type 0 where
  pub bound : c.bound ≤ other.bound
  pub distances : (p : P) → is_exit p ≡ false → c.distance p ≤ other.distance p
  pub arrivals : (i : I) → Contains tree i → c.arrival i ≤ other.arrival i
  pub rounds : (i : I) → Contains tree i → c.round i ≤ other.round i
