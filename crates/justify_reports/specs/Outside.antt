-- Where words load or store outside of the class that is stated of them, from all their places.
use Rattle.std.specs.Prelude.{◌≡◌, ◌<◌, ◌≤◌, ◌+◌, ℕ, List, Option, Some, None, length, max, min}
use Rattle.control_flow.specs.Flow.{Flow}
use Rattle.control_flow.specs.declared.places.Place.TheVariants.{At}
use Rattle.loop_bounds.specs.Tree.{Tree, place_in}
use Rattle.known_words.specs.declared.words.Range.{Range}
use Rattle.known_places.specs.Outside.{outside_at}

-- the place of the number is at the address
abbrev pub IsPlaceAt : Flow → Tree → (address number : ℕ) → Type 0
IsPlaceAt flow tree a number = (calls : List ℕ) × (place_in flow tree number ≡ At calls a)

-- the one is a range, and part of the other
abbrev pub IsPartOf : Option Range → Range → Type 0
IsPartOf None range = ⊥
IsPartOf (Some part) range = (range.low ≤ part.low) × (part.high ≤ range.high)

module _ (IsThere : ℕ → Type 0) (ranges : List (Option Range)) (end : ℕ) where
  -- one of the numbers below the end has a range with this end
  pub record HasEnd (end_of : Range → ℕ) (address : ℕ) : Type 0 where
    pub number : ℕ
    pub inside : number < end
    pub there : IsThere number
    pub range : Range
    pub range_is : outside_at ranges number ≡ Some range
    pub end_is : end_of range ≡ address

  -- each of these numbers has a range, and this is the smallest that has all of them as parts
  pub record IsHull (range : Range) : Type 0 where
    pub each : (k : ℕ) → k < end → IsThere k → IsPartOf (outside_at ranges k) range
    pub lowest : HasEnd (λ r. r.low) range.low
    pub highest : HasEnd (λ r. r.high) range.high

-- the range into which the word at the address goes outside of its class from all places; none, if there is
-- none
abbrev pub IsOutside : Flow → Tree → List (Option Range) → (a : ℕ) → Option Range → Type 0
IsOutside flow tree ranges a None =
    (range : Range) → IsHull (IsPlaceAt flow tree a) ranges (length flow.places) range → ⊥
IsOutside flow tree ranges a (Some range) = IsHull (IsPlaceAt flow tree a) ranges (length flow.places) range

-- ## Finding them, for clauses of private functions

abbrev pub hull : Range → Range → Range
hull first second = record { low = min first.low second.low; high = max first.high second.high }

abbrev pub both : Option Range → Option Range → Option Range
both None second = None
both (Some first) None = None
both (Some first) (Some second) = Some (hull first second)

-- with one place more
abbrev pub with_place : Option (Option Range) → Option Range → Option Range
with_place None range = range
with_place (Some old) range = both old range

-- by the places below the end: there is none, one of them has no range, or all have one
abbrev pub IsFoundOutside : (IsThere : ℕ → Type 0) → List (Option Range) → (end : ℕ) → Option (Option Range) → Type 0
IsFoundOutside IsThere ranges end None = (k : ℕ) → k < end → IsThere k → ⊥
IsFoundOutside IsThere ranges end (Some None) =
    (k : ℕ) × (k < end) × IsThere k × (outside_at ranges k ≡ None)
IsFoundOutside IsThere ranges end (Some (Some range)) = IsHull IsThere ranges end range

-- of all addresses
abbrev pub AreFoundOutside : Flow → Tree → List (Option Range) → (end : ℕ) → (ℕ → Option (Option Range)) → Type 0
AreFoundOutside flow tree ranges end found =
    (a : ℕ) → IsFoundOutside (IsPlaceAt flow tree a) ranges end (found a)
