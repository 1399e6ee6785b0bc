-- What a walk takes of an instance's bound, by two tests of an edge: the working form of keeping a bound,
-- which composes over joined and repeated walks.
use Rattle.std.specs.Prelude.{ℕ, ◌+◌, max, Bool, cond, List, [], ◌∷◌, count_by}
use Rattle.std.specs.List.{list_all}

module _ {E : Type 0} (inside turns : E → Bool) where
  abbrev pub turn : E → ℕ
  turn e = cond (turns e) 1 0

  abbrev pub count : List E → ℕ
  count w = count_by turns w

  abbrev pub whole : List E → Bool
  whole w = list_all inside w

  -- the turns of the stretch that the walk begins with
  abbrev pub head : List E → ℕ
  head [] = 0
  head (e ∷ w) = cond (inside e) (turn e + head w) 0

  -- of the stretch that it ends with
  abbrev pub tail : List E → ℕ
  tail [] = 0
  tail (e ∷ w) = cond (whole (e ∷ w)) (count (e ∷ w)) (tail w)

  -- the most turns of any stretch
  abbrev pub most : List E → ℕ
  most [] = 0
  most (e ∷ w) = max (head (e ∷ w)) (most w)
