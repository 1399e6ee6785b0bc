use Rattle.std.proofs.lemmas.Result.{on_ok_weaker}
use Rattle.text_explained.specs.Losing.{LeadsTo}
use Rattle.text_explained.proofs.LinkLaws.{led_one}
use Rattle.word_shapes.proofs.GrowLaws.{grows_one}
use Rattle.text_explained.proofs.links.Lost.add_led.Goals as goal

pub returns-clause-grows : goal.returns-clause-grows
returns-clause-grows c =
    on_ok_weaker c.add.result
    (grows_one (LeadsTo c.args.handler.now.image.now c.args.handler.now.statement c.args.step c.args.edge.now) c.args.self.now.order.items c.args.edge.now.to c.add.new.self.order.items
    (led_one c.args.handler.now.image.now c.args.handler.now.statement c.args.step c.args.edge.now (c.does.ensures.0 c.if-not-does.false)))
    c.add.ensures.adds
