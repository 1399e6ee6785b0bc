use Rattle.justify_reports.specs.Rows.{IsClassed}
use Rattle.justify_reports.proofs.ClassedLemmas.{instr_decides, none_decides}
use Rattle.justify_reports.proofs.classed.has_class.Goals as goal

pub returns-in-Some : goal.returns-in-Some
returns-in-Some c =
    instr_decides (IsClassed c.args.statement.now c.args.at) c.args.image.now c.args.at c.in-Some.instr c.is_classed.result c.in-Some.ensures.some c.in-Some.ensures.only
    c.is_classed.ensures

pub returns-in-None : goal.returns-in-None
returns-in-None c = none_decides (IsClassed c.args.statement.now c.args.at) c.args.image.now c.args.at c.in-None.ensures.only
