use Rattle.std.proofs.Common.{◌≡◌, drop, map}
use Rattle.text_refusals.specs.Outline.{item_of}
use Rattle.text_refusals.specs.Refused.{first_after, stretches_in}
use Rattle.text_refusals.proofs.stretch_rows.stretch_after.Given as goal

abbrev pub invariant-loop-item : goal.invariant-loop-item
invariant-loop-item l =
    first_after l.left (stretches_in (map item_of (drop l.item-index l.items)))
    ≡ first_after l.most (stretches_in (map item_of l.items))
