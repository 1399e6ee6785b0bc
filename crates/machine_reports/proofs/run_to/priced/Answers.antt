use Rattle.std.proofs.Common.{sym, subst}
use Rattle.handlers.proofs.AnswerLemmas.{ends_printed}
use Rattle.machine_reports.specs.RunTo.{IsRunToReport}
use Rattle.machine_reports.proofs.RunToReportLemmas.{runnable_to}
use Rattle.machine_reports.proofs.run_to.priced.Goals as goal
use Rattle.sources.specs.File.{file_of}

pub returns : goal.returns
returns g c =
    let shows = g.F.Front.shows in
    let ends = g.F.Front.ends in
    let asked = c.args.asked in
    let s = c.in_ok-shown.shown in
    let text = c.as_bytes.result.now in
    let shown = subst (IsRunToReport shows ends (file_of asked.source) asked.machine.now asked.to.now c.args.profile s.done) (sym c.as_bytes.ensures.value) c.in_ok-shown.ensures.shown in
    ends_printed _ _ _ _ _ c.args.out.now c.print_answer.new.out s.done text c.print_answer.result
    shown (runnable_to shows ends (file_of asked.source) asked.machine.now asked.to.now c.args.profile s.done text shown) tt c.print_answer.ensures.printed c.print_answer.ensures.device
