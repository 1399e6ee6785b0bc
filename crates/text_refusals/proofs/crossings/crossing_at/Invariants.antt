use Rattle.std.proofs.Common.{◌≡◌, ◌<◌, ℕ, get_or}
use Rattle.statement.specs.declared.stated.Loop.{Loop}
use Rattle.loop_bounds.specs.Instance.{instance_of}
use Rattle.text_refusals.specs.Crossings.{CrossNone}
use Rattle.text_refusals.proofs.crossings.crossing_at.Given as goal

abbrev pub invariant-loop-stated : goal.invariant-loop-stated
invariant-loop-stated l = (k : ℕ) (s : Loop) → k < l.stated-index → get_or l.loops.list k s ≡ s → s.header ≡ l.address → CrossNone l.graph l.loops (instance_of l.loops.apart s l.list)
