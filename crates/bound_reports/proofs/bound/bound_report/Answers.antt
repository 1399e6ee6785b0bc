use Rattle.std.proofs.Common.{Result, subst, sym}
use Rattle.handlers.specs.Priced.{Priced, given}
use Rattle.handlers.specs.declared.fault.ReportFault.{ReportFault}
use Rattle.bound_reports.proofs.BoundLemmas.{accepts, cut, only, prints, quiet, refuses}
use Rattle.bound_reports.specs.Bound.{Reports}
use Rattle.bound_reports.proofs.bound.bound_report.Goals as goal
use Rattle.sources.specs.File.{file_of}

pub returns-clause-printed : goal.returns-clause-printed
returns-clause-printed g c =
    prints g.O.Output.taken g.O.Output.failures (given c.args.profile) (file_of c.args.source) c.args.statement.now c.args.out.now c.print_bound.new.out c.fault_only.result
    (subst (λ (r : Result (Unit {0}) ReportFault). Priced (given c.args.profile) (λ p. Reports g.O.Output.taken g.O.Output.failures (file_of c.args.source) c.args.statement.now p c.args.out.now c.print_bound.new.out r) c.args.out.now c.print_bound.new.out r)
    (sym c.fault_only.ensures) c.print_bound.ensures.answers)

pub returns-clause-accepted : goal.returns-clause-accepted
returns-clause-accepted g c =
    accepts g.O.Output.taken g.O.Output.failures (given c.args.profile) (file_of c.args.source) c.args.statement.now c.args.out.now c.print_bound.new.out c.fault_only.result
    (subst (λ (r : Result (Unit {0}) ReportFault). Priced (given c.args.profile) (λ p. Reports g.O.Output.taken g.O.Output.failures (file_of c.args.source) c.args.statement.now p c.args.out.now c.print_bound.new.out r) c.args.out.now c.print_bound.new.out r)
    (sym c.fault_only.ensures) c.print_bound.ensures.answers)

pub returns-clause-refused : goal.returns-clause-refused
returns-clause-refused g c =
    refuses g.O.Output.taken g.O.Output.failures (given c.args.profile) (file_of c.args.source) c.args.statement.now c.args.out.now c.print_bound.new.out c.fault_only.result
    (subst (λ (r : Result (Unit {0}) ReportFault). Priced (given c.args.profile) (λ p. Reports g.O.Output.taken g.O.Output.failures (file_of c.args.source) c.args.statement.now p c.args.out.now c.print_bound.new.out r) c.args.out.now c.print_bound.new.out r)
    (sym c.fault_only.ensures) c.print_bound.ensures.answers)

pub returns-clause-only : goal.returns-clause-only
returns-clause-only g c =
    only g.O.Output.taken g.O.Output.failures (given c.args.profile) (file_of c.args.source) c.args.statement.now c.args.out.now c.print_bound.new.out c.fault_only.result
    (subst (λ (r : Result (Unit {0}) ReportFault). Priced (given c.args.profile) (λ p. Reports g.O.Output.taken g.O.Output.failures (file_of c.args.source) c.args.statement.now p c.args.out.now c.print_bound.new.out r) c.args.out.now c.print_bound.new.out r)
    (sym c.fault_only.ensures) c.print_bound.ensures.answers)

pub returns-clause-quiet : goal.returns-clause-quiet
returns-clause-quiet g c =
    quiet g.O.Output.taken g.O.Output.failures (given c.args.profile) (file_of c.args.source) c.args.statement.now c.args.out.now c.print_bound.new.out c.fault_only.result
    (subst (λ (r : Result (Unit {0}) ReportFault). Priced (given c.args.profile) (λ p. Reports g.O.Output.taken g.O.Output.failures (file_of c.args.source) c.args.statement.now p c.args.out.now c.print_bound.new.out r) c.args.out.now c.print_bound.new.out r)
    (sym c.fault_only.ensures) c.print_bound.ensures.answers)

pub returns-clause-cut : goal.returns-clause-cut
returns-clause-cut g c =
    cut g.O.Output.taken g.O.Output.failures (given c.args.profile) (file_of c.args.source) c.args.statement.now c.args.out.now c.print_bound.new.out c.fault_only.result
    (subst (λ (r : Result (Unit {0}) ReportFault). Priced (given c.args.profile) (λ p. Reports g.O.Output.taken g.O.Output.failures (file_of c.args.source) c.args.statement.now p c.args.out.now c.print_bound.new.out r) c.args.out.now c.print_bound.new.out r)
    (sym c.fault_only.ensures) c.print_bound.ensures.answers)
