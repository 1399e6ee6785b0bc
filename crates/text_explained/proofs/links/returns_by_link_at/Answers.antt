use Rattle.text_explained.specs.Doing.{may_do_shape}
use Rattle.text_explained.specs.Links.{returns_by_link}
use Rattle.text_explained.proofs.InstrLaws.{none_shaped, word_decides}
use Rattle.text_explained.proofs.links.returns_by_link_at.Goals as goal

pub returns-in-Some : goal.returns-in-Some
returns-in-Some c =
    word_decides (may_do_shape returns_by_link c.args.statement.now c.args.at) c.args.image.now c.args.at c.in-Some.instr c.may_return_by_link.result c.in-Some.ensures.some c.in-Some.ensures.only
    c.may_return_by_link.ensures

pub returns-in-None : goal.returns-in-None
returns-in-None c = none_shaped (may_do_shape returns_by_link c.args.statement.now c.args.at) c.args.image.now c.args.at c.in-None.ensures.only
