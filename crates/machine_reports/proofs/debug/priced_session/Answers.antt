use Rattle.std.proofs.Common.{sym, subst}
use Rattle.machine_reports.specs.Debug.{IsDebugReport}
use Rattle.handlers.proofs.AnswerLemmas.{ends_printed}
use Rattle.machine_reports.proofs.debug.priced_session.Goals as goal
use Rattle.sources.specs.File.{file_of}

pub returns : goal.returns
returns g c =
    let i = c.args.inputs in
    let stepped = subst (IsDebugReport (file_of i.source) i.machine.now i.commands.now c.args.profile) (sym c.deref.ensures.value) c.in_ok-text.ensures.session in
    ends_printed _ _ _ _ _ c.args.out.now c.print_answer.new.out tt c.deref.result.now c.print_answer.result
    stepped (record { file = stepped.file; state = stepped.state; placed = stepped.placed }) tt c.print_answer.ensures.printed c.print_answer.ensures.device
