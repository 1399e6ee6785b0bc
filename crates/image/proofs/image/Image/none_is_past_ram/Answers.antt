use Rattle.std.proofs.Common.{◌∙◌, sym}
use Rattle.image.proofs.GapLemmas.{all_else, all_then}
use Rattle.image.proofs.image.Image.none_is_past_ram.Goals as goal

pub returns-then-are_fitted : goal.returns-then-are_fitted
returns-then-are_fitted c =
    all_then _ c.self.inside.below.items c.self.inside.above.items _ _ c.self.view_is (rw c.deref.ensures.value at (sym c.are_fitted.ensures ∙ c.if-are_fitted.true)) c.above_is_fitted.ensures

pub returns-else-are_fitted : goal.returns-else-are_fitted
returns-else-are_fitted c =
    c.if-are_fitted.false ∙ sym (all_else _ c.self.inside.below.items c.self.inside.above.items _ c.self.view_is (rw c.deref.ensures.value at (sym c.are_fitted.ensures ∙ c.if-are_fitted.false)))
