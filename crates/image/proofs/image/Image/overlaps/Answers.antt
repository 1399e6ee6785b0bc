use Rattle.std.proofs.Common.{◌∙◌, sym}
use Rattle.image.proofs.GapLemmas.{any_else, any_then}
use Rattle.image.proofs.image.Image.overlaps.Goals as goal

pub returns-then-lie_in : goal.returns-then-lie_in
returns-then-lie_in c =
    c.if-lie_in.true ∙ sym (any_then _ c.self.inside.below.items c.self.inside.above.items _ c.self.view_is (rw c.deref.ensures.value at (sym c.lie_in.ensures ∙ c.if-lie_in.true)))

pub returns-else-lie_in : goal.returns-else-lie_in
returns-else-lie_in c =
    any_else _ c.self.inside.below.items c.self.inside.above.items _ _ c.self.view_is (rw c.deref.ensures.value at (sym c.lie_in.ensures ∙ c.if-lie_in.false)) c.above_lie_in.ensures
