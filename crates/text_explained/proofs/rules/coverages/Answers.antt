use Rattle.std.proofs.Common.{◌+◌, sym, subst, take}
use Rattle.text_explained.proofs.RuleLaws.{AreCounted, all_counted, more_counted}
use Rattle.text_explained.proofs.rules.coverages.Goals as goal

pub loop-address-preserved : goal.loop-address-preserved
loop-address-preserved c =
    let words = c.args.handler.now.image.now in
    let st = c.args.handler.now.statement in
    let i = c.loop-address.address-index in
    subst (AreCounted words st (take (i + 1) c.args.at.now)) (sym c.count.ensures)
    (more_counted words st c.args.at.now i _ c.loop-address.counts.items c.rule_over.result c.requires c.loop-address-test.true c.rule_over.ensures c.loop-address.invariant)

pub returns : goal.returns
returns c =
    all_counted c.args.handler.now.image.now c.args.handler.now.statement c.args.at.now c.loop-address.address-index c.loop-address.counts.items c.loop-address-test.false
    c.loop-address.invariant
