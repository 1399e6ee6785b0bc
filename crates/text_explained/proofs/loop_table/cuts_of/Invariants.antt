use Rattle.std.proofs.Common.{◌≡◌, ℕ, take}
use Rattle.std.specs.BTreeSet.{contains}
use Rattle.std.specs.List.{list_any}
use Rattle.std.specs.Ordering.{nat_cmp}
use Rattle.text_explained.specs.LoopTable.{is_cut}
use Rattle.text_explained.proofs.loop_table.cuts_of.Given as goal

abbrev pub invariant-loop-stated : goal.invariant-loop-stated
invariant-loop-stated l = (at : ℕ) → contains nat_cmp l.cuts at ≡ list_any (is_cut l.apart at) (take l.stated-index l.loops)
