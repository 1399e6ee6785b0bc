use Rattle.std.proofs.Common.{◌≤◌, subst, sym}
use Rattle.std.proofs.Math.Nat.{le-min, max-le}
use Rattle.known_places.proofs.limits.common.Goals as goal

pub returns : goal.returns
returns c = λ word first second. (
  subst (λ n. n ≤ word) (sym c.max.ensures) (max-le first.0 second.0),
  subst (λ n. word ≤ n) (sym c.min.ensures) (le-min first.1 second.1),
)
