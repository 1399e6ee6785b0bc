use Rattle.std.proofs.Common.{◌<◌, inr, refl, ap, arith}
use Rattle.text_trace.specs.TraceText.{TracesRun}
use Rattle.debugger.specs.Watching.{inputs_of}
use Rattle.debugger.proofs.WatchLaws.{added_alone, session_on, still_run}
use Rattle.debugger.proofs.session.Session.step.Goals as goal

pub returns-then-ran-eq0 : goal.returns-then-ran-eq0
returns-then-ran-eq0 c =
    let s = c.self.inside in
    let ran = c.put_steps-ran in
    let stopped =
    still_run s.machine s.next c.args.steps ran.result ran.new.machine (omega (arith, c.requires))
    ran.ensures.runs c.if-ran-eq0.true in
    record {
      ok = tt;
      fault = inr (refl, rw (← c.self.view_is) stopped.1);
      unchanged = rw (← c.self.view_is) (ap (session_on s.breaks.items s.next s.ticks s.elapsed) stopped.0);
    }

pub returns-clause-ok : goal.returns-clause-ok
returns-clause-ok c =
    let s = c.self.inside in
    let ran = c.put_steps-ran in
    let some : 0 < ran.result.steps = omega (arith, c.if-ran-eq0.false) in
    let text =
    added_alone (TracesRun s.machine (inputs_of s.next c.args.steps)) c.in_ok-answer.answer.items
    ran.new.out.items c.in_ok-answer.ensures.items ran.ensures.text in
    rw (← c.self.view_is) (ran.result, ran.new.machine, ran.ensures.runs, some, text, c.settle.ensures)
