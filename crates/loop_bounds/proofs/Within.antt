-- Positions within an extent, as a test and as a fact.
use Rattle.std.proofs.Common.{◌≡◌, ℕ, true, false, leb, ltb}
use Rattle.std.proofs.lemmas.Bool.{both_ways, and_parts, and_from, leb-true, ltb-true, le-leb, lt-ltb}
use Rattle.loop_bounds.specs.declared.extents.Extent.{Extent}
use Rattle.loop_bounds.specs.Extents.{IsWithin, is_within}

pub in_from : (s : Extent) (p : ℕ) → is_within s p ≡ true → IsWithin s p
in_from s p h =
    let parts = and_parts (leb s.first p) (ltb p s.end) h in
    (leb-true s.first p parts.0, ltb-true p s.end parts.1)

pub from_in : (s : Extent) (p : ℕ) → IsWithin s p → is_within s p ≡ true
from_in s p h = and_from (leb s.first p) (ltb p s.end) (le-leb s.first p h.0) (lt-ltb p s.end h.1)

pub out_from : (s : Extent) (p : ℕ) → is_within s p ≡ false → IsWithin s p → ⊥
out_from s p h at = both_ways (is_within s p) h (from_in s p at)
