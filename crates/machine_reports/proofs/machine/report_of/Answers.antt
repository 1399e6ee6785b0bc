use Rattle.std.proofs.Common.{◌≡◌, subst, sym}
use Rattle.std.proofs.lemmas.Result.{IfErr-weaker}
use Rattle.handlers.specs.declared.fault.ReportFault.{ReportFault}
use Rattle.handlers.specs.declared.fault.ReportFault.TheVariants.{Memory}
use Rattle.handlers.proofs.PlacingLemmas.{Refused}
use Rattle.machine_reports.proofs.machine.report_of.Goals as goal
use Rattle.sources.specs.File.{file_of}

pub returns : goal.returns
returns g c =
    let refused = Refused (file_of c.args.source) c.args.machine.now c.args.profile in
    record {
      shown = c.placed_report.ensures.shown (file_of c.args.source) c.args.machine.now c.args.profile c.in_ok-placed.ensures.placed;
      fault = IfErr-weaker c.placed_report.result _ _ (λ (e : ReportFault) (is : e ≡ Memory). subst refused (sym is) (λ e. cc e, tt)) c.placed_report.ensures.memory;
      only = λ able. c.placed_report.ensures.memory;
    }
