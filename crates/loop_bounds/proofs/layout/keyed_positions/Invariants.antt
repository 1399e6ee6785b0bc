use Rattle.std.proofs.Common.{slice_index}
use Rattle.loop_bounds.specs.Layout.{AreKeyed, items_of, key_in}
use Rattle.loop_bounds.proofs.layout.keyed_positions.Given as goal

abbrev pub invariant-loop-position : goal.invariant-loop-position
invariant-loop-position l = AreKeyed (key_in (slice_index l.nesting.ranks.items) l.extents) (items_of l.nesting.chains.items) l.position l.keyed.items
