use Rattle.std.proofs.Common.{Bool, Result, subst, sym}
use Rattle.handlers.specs.Priced.{Priced, given}
use Rattle.handlers.specs.declared.fault.ReportFault.{ReportFault}
use Rattle.explain_reports.specs.Check.{Checks}
use Rattle.explain_reports.proofs.check.check_report.Goals as goal
use Rattle.sources.specs.File.{file_of}

pub returns : goal.returns
returns g c =
    subst (λ (r : Result Bool ReportFault). Priced (given c.args.profile) (λ p. Checks g.O.Output.taken g.O.Output.failures (file_of c.args.source) c.args.statement.now c.args.cert.now p c.args.out.now c.print_check.new.out r) c.args.out.now c.print_check.new.out r)
    (sym c.fault_only.ensures) c.print_check.ensures.answers
