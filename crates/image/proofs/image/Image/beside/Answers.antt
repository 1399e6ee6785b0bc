use Rattle.std.proofs.Common.{◌≡◌, ◌∙◌, ◌-◌, ◌<◌, ap, sym, arith, length, ℕ}
use Rattle.std.specs.Prelude.{is_some, slice_get}
use Rattle.std.specs.List.{AllByRecursion}
use Rattle.image.specs.Image.{Words}
use Rattle.image.proofs.GapLemmas.{Ascends-back, Ascends-front, Below, Quads-back, Quads-front, after_high, all_above, all_below, before_low, none_between}
use Rattle.image.proofs.WordLemmas.{quad, quads}
use Rattle.image.proofs.image.Image.beside.Goals as goal

-- both parts, where the address lies between them
low_is : (c : goal.After-is_some-then-is_above) → c.last-low.result ≡ slice_get c.self.inside.below.items (length c.self.inside.below.items - 1)
low_is c = c.last-low.ensures ∙ ap (λ (ws : Words). slice_get ws (length ws - 1)) c.deref.ensures.value

below : (c : goal.After-is_some-then-is_above) → Below c.args.address c.self.inside.below.items
below c = all_below _ c.args.address c.last-low.result (low_is c) (sym c.is_below.ensures ∙ c.if-is_below.true) (Ascends-front _ c.self.inside.above.items c.self.invariant.ascends)

above : (c : goal.After-is_some-then-is_above) → AllByRecursion (λ (e : ℕ × ℕ). c.args.address < e.0) c.self.inside.above.items
above c = all_above _ c.args.address c.first-high.result c.first-high.ensures (sym c.is_above.ensures ∙ c.if-is_above.true) (Ascends-back c.self.inside.below.items _ c.self.invariant.ascends)

pub returns-then-is_above-clause-at : goal.returns-then-is_above-clause-at
returns-then-is_above-clause-at c = rw (← c.self.view_is) (none_between c.self.inside.below.items c.self.inside.above.items c.args.address (below c) (above c))

pub returns-then-is_above-clause-before : goal.returns-then-is_above-clause-before
returns-then-is_above-clause-before c =
    let words = quads _ c.self.invariant.allowed in
    rw (← c.self.view_is)
    (c.is_some.ensures ∙ ap is_some c.word_if.ensures
    ∙ before_low c.self.inside.below.items c.self.inside.above.items c.args.address _ c.last-low.result c.saturating_sub-before.ensures (low_is c)
    (Ascends-front _ c.self.inside.above.items c.self.invariant.ascends) (Quads-front _ c.self.inside.above.items words) (below c) (above c) (quad c.args.address c.requires))

pub returns-then-is_above-clause-after : goal.returns-then-is_above-clause-after
returns-then-is_above-clause-after c =
    let words = quads _ c.self.invariant.allowed in
    rw (← c.self.view_is)
    (c.is_some-then-is_above.ensures ∙ ap is_some c.word_if-then-is_above.ensures
    ∙ after_high c.self.inside.below.items c.self.inside.above.items c.args.address _ c.first-high.result (omega arith) c.first-high.ensures
    (Ascends-back c.self.inside.below.items _ c.self.invariant.ascends) (Quads-back c.self.inside.below.items _ words) (below c) (above c) (quad c.args.address c.requires))
