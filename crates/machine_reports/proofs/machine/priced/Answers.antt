use Rattle.std.proofs.Common.{sym, subst}
use Rattle.handlers.proofs.AnswerLemmas.{ends_printed}
use Rattle.machine_reports.specs.Machine.{IsMachineReport}
use Rattle.machine_reports.proofs.MachineLemmas.{runnable}
use Rattle.machine_reports.proofs.machine.priced.Goals as goal
use Rattle.sources.specs.File.{file_of}

pub returns : goal.returns
returns g c =
    let shows = g.F.Front.shows in
    let ends = g.F.Front.ends in
    let source = (file_of c.args.source) in
    let machine = c.args.machine.now in
    let s = c.in_ok-shown.shown in
    let text = c.as_bytes.result.now in
    let shown = subst (IsMachineReport shows ends source machine c.args.profile s.done) (sym c.as_bytes.ensures.value) c.in_ok-shown.ensures.shown in
    ends_printed _ _ _ _ _ c.args.out.now c.print_answer.new.out s.done text c.print_answer.result
    shown (runnable shows ends source machine c.args.profile s.done text shown) tt c.print_answer.ensures.printed c.print_answer.ensures.device
