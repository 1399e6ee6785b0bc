use Rattle.std.proofs.Common.{◌≡◌, ◌<◌, ℕ, get_or}
use Rattle.std.specs.Prelude.{Contains}
use Rattle.control_flow.specs.declared.places.Place.TheVariants.{At}
use Rattle.statement.specs.declared.stated.Loop.{Loop}
use Rattle.loop_bounds.specs.Extents.{found_instance}
use Rattle.loop_bounds.specs.Instance.{instance_of}
use Rattle.text_refusals.specs.Crossings.{DoNotCross}
use Rattle.text_refusals.proofs.crossings.crossing_with.Given as goal

abbrev pub invariant-loop-stated : goal.invariant-loop-stated
invariant-loop-stated l = (k : ℕ) (s : Loop) → k < l.stated-index → get_or l.loops.list k s ≡ s → Contains l.graph.places (At l.one.list s.header) → DoNotCross l.graph (found_instance l.loops.apart l.one) (instance_of l.loops.apart s l.one.list)
