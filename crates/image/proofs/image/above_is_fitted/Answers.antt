use Rattle.std.proofs.Common.{◌∙◌, sym}
use Rattle.image.proofs.GapLemmas.{all_else, all_then}
use Rattle.image.proofs.image.above_is_fitted.Goals as goal

pub returns-then-are_fitted : goal.returns-then-are_fitted
returns-then-are_fitted c = all_then _ c.as_slices.result.0.now c.as_slices.result.1.now _ _ c.as_slices.ensures.items (sym c.are_fitted.ensures ∙ c.if-are_fitted.true) c.are_fitted-then-are_fitted.ensures

pub returns-else-are_fitted : goal.returns-else-are_fitted
returns-else-are_fitted c = c.if-are_fitted.false ∙ sym (all_else _ c.as_slices.result.0.now c.as_slices.result.1.now _ c.as_slices.ensures.items (sym c.are_fitted.ensures ∙ c.if-are_fitted.false))
