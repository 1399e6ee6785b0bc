use Rattle.std.proofs.Common.{List, map, take}
use Rattle.statement.specs.declared.apart.ApartStretch.{ApartStretch}
use Rattle.std.specs.Prelude.{Contains, ◌↔◌, AllPairs, ◌≢◌}
use Rattle.loop_bounds.specs.Instance.{Instance}
use Rattle.loop_bounds.specs.Extents.{HeadersDiffer, IsFoundAmong, PlacesDiffer, found_instance}
use Rattle.loop_bounds.proofs.loop_instances.instances_among.Given as goal

abbrev pub invariant-loop-place : goal.invariant-loop-place
invariant-loop-place l = record {
  exact : (apart : List ApartStretch) (i : Instance) → Contains (map (found_instance apart) l.found.items) i ↔ IsFoundAmong apart (take l.place-index l.places) l.sorted i;
  differ : HeadersDiffer l.sorted → AllPairs (λ p q. p ≢ q) l.places → PlacesDiffer l.found.items;
}
