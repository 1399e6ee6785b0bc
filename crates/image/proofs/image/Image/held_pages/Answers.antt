use Rattle.std.proofs.Common.{◌∙◌, ℕ, ◌/◌, ◌^◌, sym}
use mathlib.Core.List.{map-map}
use Rattle.image.proofs.PageLemmas.{pages_held}
use Rattle.image.proofs.image.Image.held_pages.Goals as goal

pub returns : goal.returns
returns c = pages_held _ _ _ c.whole.ensures (c.in_ok-pages.ensures ∙ sym (map-map (λ (a : ℕ). a / 2 ^ 15) (λ e. e.0) c.args.self.now)) c.dedup.ensures.filtered
