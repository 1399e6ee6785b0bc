use Rattle.std.proofs.lemmas.Result.{IfErr-weaker}
use Rattle.machine_reports.proofs.RunToReportLemmas.{runnable_to_memory}
use Rattle.machine_reports.proofs.run_to.report_of.Goals as goal
use Rattle.sources.specs.File.{file_of}

pub returns : goal.returns
returns g c =
    let asked = c.args.asked in
    let said = c.in_ok-said.ensures.is.said in
    record {
      shown = c.source_report.ensures.shown said;
      fault = c.source_report.ensures.fault said;
      only = λ able. IfErr-weaker c.source_report.result _ _
          (λ e h. runnable_to_memory (file_of asked.source) asked.machine.now asked.to.now c.args.profile e h able)
          (c.source_report.ensures.fault said);
    }
