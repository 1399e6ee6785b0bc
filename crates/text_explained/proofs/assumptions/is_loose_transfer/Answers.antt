use Rattle.text_explained.specs.Assumed.{IsLoose}
use Rattle.text_explained.proofs.InstrLaws.{instr_decides, none_decides}
use Rattle.text_explained.proofs.assumptions.is_loose_transfer.Goals as goal

pub returns-in-Some : goal.returns-in-Some
returns-in-Some c =
    instr_decides (IsLoose c.args.statement.now c.args.at) c.args.image.now c.args.at c.in-Some.instr c.is_loose.result c.in-Some.ensures.some c.in-Some.ensures.only
    c.is_loose.ensures

pub returns-in-None : goal.returns-in-None
returns-in-None c = none_decides (IsLoose c.args.statement.now c.args.at) c.args.image.now c.args.at c.in-None.ensures.only
