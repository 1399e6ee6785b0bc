use Rattle.std.proofs.Common.{◌∙◌, Vec, ap, arith}
use Rattle.std.specs.Global.{Global}
use Rattle.longest_walk.specs.declared.folded.Item.{Item}
use Rattle.walk_contradictions.specs.Passing.{In}
use Rattle.walk_contradictions.proofs.OrderLemmas.{found_there, passed_all, passed_more, passed_rounds}
use Rattle.walk_contradictions.proofs.passing.Way.+pass.Goals as goal

pub pass_item-returns-then-rounds-ne0 : goal.pass_item-returns-then-rounds-ne0
pass_item-returns-then-rounds-ne0 t c =
    passed_rounds c.args.self.image.now c.args.self.direction c.args.item.now c.in-Repeat.rounds c.in-Repeat.body c.deref-then-rounds-ne0.result.now c.in-Repeat.is
    (c.deref-then-rounds-ne0.ensures.value ∙ ap (λ (v : Vec Item Global). v.items) c.deref.ensures) (In c.args.set.now) c.pass_items.new.set
    (omega (arith, c.if-rounds-ne0.true)) c.pass_items.ensures

pub pass_items-loop-number-preserved : goal.pass_items-loop-number-preserved
pass_items-loop-number-preserved t c =
    passed_more c.args.self.image.now c.args.self.direction c.args.items.now (In c.args.set.now) c.loop-number.number c.index-items-place_at.result c.loop-number-test.true
    (found_there c.args.self.direction c.args.items.now c.place_at.result c.loop-number.number c.index-items-place_at.result c.place_at.ensures.inside c.place_at.ensures.item
    c.index-items-place_at.is)
    c.loop-number.set c.pass_item.new.set c.loop-number.invariant c.pass_item.ensures

pub pass_items-returns : goal.pass_items-returns
pass_items-returns t c =
    passed_all c.args.self.image.now c.args.self.direction c.args.items.now (In c.args.set.now) c.loop-number.number c.loop-number.set c.loop-number-test.false
    c.loop-number.invariant
