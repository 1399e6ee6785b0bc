use Rattle.std.specs.Prelude.{◌≡◌, ◌-◌, drop, map, take}
use Rattle.control_flow.specs.Places.{place_at}
use Rattle.loop_bounds.proofs.nested.places_of.Given as goal

abbrev pub invariant-loop-number : goal.invariant-loop-number
invariant-loop-number l = l.members.items ≡ take (l.number - l.span.header) (drop l.span.header (map (place_at l.places) l.order))
