use Rattle.text_explained.specs.Links.{may_put_address}
use Rattle.text_explained.proofs.InstrLaws.{none_shaped, word_decides}
use Rattle.text_explained.proofs.links.puts_address_at.Goals as goal

pub returns-in-Some : goal.returns-in-Some
returns-in-Some c =
    word_decides (may_put_address c.args.image.now c.args.statement.now c.args.at) c.args.image.now c.args.at c.in-Some.instr c.may_put_address.result c.in-Some.ensures.some c.in-Some.ensures.only
    c.may_put_address.ensures

pub returns-in-None : goal.returns-in-None
returns-in-None c = none_shaped (may_put_address c.args.image.now c.args.statement.now c.args.at) c.args.image.now c.args.at c.in-None.ensures.only
