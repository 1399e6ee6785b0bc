use Rattle.std.proofs.Common.{◌∙◌, ap, sym, length, arith}
use Rattle.std.specs.Prelude.{slice_get}
use Rattle.image.specs.Image.{Words}
use Rattle.image.proofs.GapLemmas.{get_back, get_front}
use Rattle.image.proofs.image.Image.nth.Goals as goal

pub returns-in-Some : goal.returns-in-Some
returns-in-Some c =
    rw (← c.self.view_is)
    (sym (get_front c.self.inside.below.items c.self.inside.above.items c.args.n c.in-Some.entry (ap (λ (ws : Words). slice_get ws c.args.n) (sym c.deref.ensures.value) ∙ sym c.nth_below.ensures ∙ c.in-Some.is)))

pub returns-in-None : goal.returns-in-None
returns-in-None c =
    rw (← c.self.view_is)
    (c.nth_above.ensures
    ∙ get_back c.self.inside.below.items c.self.inside.above.items c.args.n c.saturating_sub.result (ap (λ (ws : Words). slice_get ws c.args.n) (sym c.deref.ensures.value) ∙ sym c.nth_below.ensures ∙ c.in-None.is)
    (omega (arith, c.saturating_sub.ensures, c.len.ensures, c.deref.ensures.len, ap length c.deref.ensures.value)))
