use Rattle.std.proofs.Common.{map}
use Rattle.text_listing.specs.ListOrder.{falls_from}
use Rattle.text_listing.proofs.OrderLaws.{falls_end, falls_more}
use Rattle.text_listing.proofs.list_order.falls.Goals as goal

pub loop-name-preserved : goal.loop-name-preserved
loop-name-preserved c =
    falls_more c.args.names.now c.loop-name.name-index _ c.loop-name.before c.number_or-number.result c.loop-name.falls (falls_from 0 (map (λ n. n.now) c.args.names.now))
    c.loop-name-test.true c.loop-name.invariant c.number_or-number.ensures

pub returns : goal.returns
returns c =
    falls_end c.args.names.now c.loop-name.name-index c.loop-name.before c.loop-name.falls (falls_from 0 (map (λ n. n.now) c.args.names.now)) c.loop-name-test.false c.loop-name.invariant
