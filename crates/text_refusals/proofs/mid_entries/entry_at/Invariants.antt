use Rattle.std.proofs.Common.{◌≡◌, ◌<◌, ℕ, List, get_or}
use Rattle.control_flow.specs.declared.places.Place.TheVariants.{At}
use Rattle.statement.specs.declared.stated.Loop.{Loop}
use Rattle.loop_bounds.specs.Instance.{instance_of}
use Rattle.text_refusals.specs.Entries.{IsRightlyEntered}
use Rattle.text_refusals.proofs.mid_entries.entry_at.Given as goal

abbrev pub invariant-loop-stated : goal.invariant-loop-stated
invariant-loop-stated l = (k : ℕ) (s : Loop) → k < l.stated-index → get_or l.loops.list k s ≡ s → (list : List ℕ) → l.header ≡ At list s.header → IsRightlyEntered l.graph (instance_of l.loops.apart s list)
