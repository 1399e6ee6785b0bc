use Rattle.std.proofs.Common.{◌∙◌, sym}
use Rattle.image.proofs.GapLemmas.{any_else, any_then}
use Rattle.image.proofs.reading.above_lie_in.Goals as goal

pub returns-then-lie_in : goal.returns-then-lie_in
returns-then-lie_in c = c.if-lie_in.true ∙ sym (any_then _ c.as_slices.result.0.now c.as_slices.result.1.now _ c.as_slices.ensures.items (sym c.lie_in.ensures ∙ c.if-lie_in.true))

pub returns-else-lie_in : goal.returns-else-lie_in
returns-else-lie_in c = any_else _ c.as_slices.result.0.now c.as_slices.result.1.now _ _ c.as_slices.ensures.items (sym c.lie_in.ensures ∙ c.if-lie_in.false) c.lie_in-else-lie_in.ensures
