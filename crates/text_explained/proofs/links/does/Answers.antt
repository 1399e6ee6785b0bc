use Rattle.text_explained.proofs.LinkLaws.{does_decides}
use Rattle.text_explained.proofs.links.does.Goals as goal

pub returns : goal.returns
returns c =
    does_decides c.args.handler.now.image.now c.args.handler.now.statement c.args.step c.args.edge.now.from c.args.edge.now.to c.in-At.calls c.in-At-to.others c.in-At.at c.in-At-to.field-1 c.does_to.result
    c.in-At.is c.in-At-to.is c.does_to.ensures
