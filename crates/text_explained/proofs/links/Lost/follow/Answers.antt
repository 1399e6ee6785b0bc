use Rattle.text_explained.proofs.LinkLaws.{grows_all, grows_begun, grows_more}
use Rattle.text_explained.proofs.links.Lost.follow.Goals as goal

pub loop-edge-init : goal.loop-edge-init
loop-edge-init c = record { found = c.requires; grows = grows_begun c.args.handler.now.image.now c.args.handler.now.statement c.args.step c.args.edges.now c.args.self.now.order.items }

pub loop-edge-preserved : goal.loop-edge-preserved
loop-edge-preserved c = record {
  found = c.in_ok-add_led.ensures.found;
  grows =
      grows_more c.args.handler.now.image.now c.args.handler.now.statement c.args.step c.args.edges.now c.loop-edge.edge-index c.edge-item.result c.args.self.now.order.items c.loop-edge.self.order.items
      c.add_led.new.self.order.items c.loop-edge-test.true c.edge-item.is c.loop-edge.invariant.grows c.in_ok-add_led.ensures.grows;
}

pub returns-clause-grows : goal.returns-clause-grows
returns-clause-grows c =
    grows_all c.args.handler.now.image.now c.args.handler.now.statement c.args.step c.args.edges.now c.loop-edge.edge-index c.args.self.now.order.items c.loop-edge.self.order.items c.loop-edge-test.false
    c.loop-edge.invariant.grows
