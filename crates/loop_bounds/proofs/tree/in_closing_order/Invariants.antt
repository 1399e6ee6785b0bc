use Rattle.loop_bounds.specs.Layout.{AreParted}
use Rattle.loop_bounds.proofs.tree.in_closing_order.Given as goal

abbrev pub invariant-loop-span : goal.invariant-loop-span
invariant-loop-span l = AreParted l.found l.closing l.instances.items l.spans.items l.span-index
