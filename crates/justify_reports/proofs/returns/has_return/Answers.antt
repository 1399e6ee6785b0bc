use Rattle.justify_reports.specs.Returns.{IsReturn}
use Rattle.justify_reports.proofs.ClassedLemmas.{instr_decides, none_decides}
use Rattle.justify_reports.proofs.returns.has_return.Goals as goal

pub returns-in-Some : goal.returns-in-Some
returns-in-Some c =
    instr_decides (IsReturn c.args.statement.now c.args.at) c.args.image.now c.args.at c.in-Some.instr c.is_return.result c.in-Some.ensures.some c.in-Some.ensures.only
    c.is_return.ensures

pub returns-in-None : goal.returns-in-None
returns-in-None c = none_decides (IsReturn c.args.statement.now c.args.at) c.args.image.now c.args.at c.in-None.ensures.only
