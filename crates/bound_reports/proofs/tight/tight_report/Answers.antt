use Rattle.std.proofs.Common.{Result, subst, sym}
use Rattle.handlers.specs.Priced.{Priced, given}
use Rattle.handlers.specs.declared.fault.ReportFault.{ReportFault}
use Rattle.bound_reports.specs.TightReport.{ReportsTight}
use Rattle.bound_reports.proofs.tight.tight_report.Goals as goal
use Rattle.sources.specs.File.{file_of}

pub returns : goal.returns
returns g c =
    subst (λ (r : Result (Unit {0}) ReportFault). Priced (given c.args.profile) (λ p. ReportsTight g.O.Output.taken g.O.Output.failures (file_of c.args.source) c.args.statement.now c.args.edge p c.args.out.now c.print_tight.new.out r) c.args.out.now c.print_tight.new.out r)
    (sym c.fault_only.ensures) c.print_tight.ensures.answers
