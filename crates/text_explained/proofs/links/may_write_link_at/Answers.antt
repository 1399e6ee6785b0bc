use Rattle.text_explained.specs.Doing.{may_do_shape}
use Rattle.text_explained.specs.Links.{writes_link}
use Rattle.text_explained.proofs.InstrLaws.{none_shaped, word_decides}
use Rattle.text_explained.proofs.links.may_write_link_at.Goals as goal

pub returns-in-Some : goal.returns-in-Some
returns-in-Some c =
    word_decides (may_do_shape writes_link c.args.statement.now c.args.at) c.args.image.now c.args.at c.in-Some.instr c.may_write_link.result c.in-Some.ensures.some c.in-Some.ensures.only
    c.may_write_link.ensures

pub returns-in-None : goal.returns-in-None
returns-in-None c = none_shaped (may_do_shape writes_link c.args.statement.now c.args.at) c.args.image.now c.args.at c.in-None.ensures.only
