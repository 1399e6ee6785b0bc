-- The sets by which what is on trust is looked up.
use Rattle.std.specs.Prelude.{◌≡◌, ◌||◌, ℕ, Bool, Option}
use Rattle.std.specs.BTreeSet.{contains}
use Rattle.std.specs.Ordering.{nat_cmp}
use Rattle.known_places.specs.OnTrust.{OnTrust}
use Rattle.justify_reports.specs.Trust.{trusts_class, trusts_loop}
use Rattle.justify_reports.specs.declared.trusted.TrustSets.{TrustSets}

abbrev pub has_class : TrustSets → ℕ → Bool
has_class sets a = sets.all || contains nat_cmp sets.classes a

abbrev pub has_loop : TrustSets → ℕ → Bool
has_loop sets a = sets.all || contains nat_cmp sets.loops a

-- they have exactly what is on trust
pub record AreSetsOf (left : Option OnTrust) (sets : TrustSets) : Type 0 where
  pub classes : (a : ℕ) → has_class sets a ≡ trusts_class left a
  pub loops : (a : ℕ) → has_loop sets a ≡ trusts_loop left a
