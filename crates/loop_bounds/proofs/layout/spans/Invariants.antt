use Rattle.loop_bounds.specs.Layout.{AreSpans}
use Rattle.loop_bounds.proofs.layout.spans.Given as goal

abbrev pub invariant-loop-extent : goal.invariant-loop-extent
invariant-loop-extent l = AreSpans l.numbers l.found l.extents l.spans.items l.extent-index
