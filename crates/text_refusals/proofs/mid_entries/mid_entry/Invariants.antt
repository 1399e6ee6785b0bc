use Rattle.std.proofs.Common.{◌≡◌, ◌<◌, ℕ, get_or}
use Rattle.control_flow.specs.declared.places.Place.{Place}
use Rattle.text_refusals.specs.Entries.{AreRightlyEntered}
use Rattle.text_refusals.proofs.mid_entries.mid_entry.Given as goal

abbrev pub invariant-loop-header : goal.invariant-loop-header
invariant-loop-header l = (k : ℕ) (p : Place) → k < l.header-index → get_or l.graph.places k p ≡ p → AreRightlyEntered l.graph l.loops p
