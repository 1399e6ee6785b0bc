use Rattle.bound_reports.specs.TightReport.{HasTightReport, IsTightRefused, IsTightReport}
use Rattle.handlers.specs.Refusal.{fault_only}
use Rattle.arcwcet.specs.Kept.{inputs_lent}
use Rattle.arcwcet.proofs.RunLemmas.{answered_yes}
use Rattle.arcwcet.proofs.reports.print_edge.Goals as goal

pub returns : goal.returns
returns g c =
    let i = inputs_lent c.args.inputs in
    answered_yes g.O.Output.taken g.O.Output.failures c.args.out.now c.print_tight.new.out i.profile (IsTightReport i.source i.second c.args.numbers.edge) (HasTightReport i.source i.second c.args.numbers.edge) (IsTightRefused i.source i.second c.args.numbers.edge)
    (fault_only c.print_tight.result) c.print_tight.ensures.answers (fault_only c.answered.result) c.answered.ensures
