use Rattle.std.proofs.Common.{ℕ, ◌<◌, get_or, Contains}
use Rattle.control_flow.specs.declared.places.Place.{Place}
use Rattle.cert_check.proofs.failing_presence.first_without.Given as goal

abbrev pub invariant-loop-place : goal.invariant-loop-place
invariant-loop-place l = (k : ℕ) (d : Place) → k < l.place-index → Contains l.given (get_or l.wanted k d)
