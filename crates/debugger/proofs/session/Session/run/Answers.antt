use Rattle.std.proofs.Common.{◌++◌, ◌∷◌, List, ℕ, [], inr, refl, ap, subst, arith}
use Rattle.arm2_exec.specs.declared.machine.Traced.{Traced}
use Rattle.text_trace.specs.TraceText.{IsTraceLine}
use Rattle.debugger.specs.Watching.{Watches, inputs_of}
use Rattle.debugger.proofs.WatchLaws.{added_alone, first_of_watch, none_made, session_on, some_steps, still}
use Rattle.debugger.proofs.WatchLaws.{same_line, with_last}
use Rattle.debugger.proofs.session.Session.run.Goals as goal

pub returns-in_default : goal.returns-in_default
returns-in_default c =
    let s = c.self.inside in
    let watched = c.run_watched-watched in
    let (made, watches, ends) = watched.ensures in
    let none = none_made made watched.result.last c.in_default.not-Some ends in
    let stopped =
    still c.as_slice-breaks.result.now s.machine s.next c.args.steps made watched.result.ran
    watched.new.machine (omega (arith, c.requires)) watches none in
    record {
      ok = tt;
      fault = inr (refl, rw (← c.self.view_is) stopped.1);
      unchanged = rw (← c.self.view_is) (ap (session_on s.breaks.items s.next s.ticks s.elapsed) stopped.0);
    }

pub returns-clause-ok : goal.returns-clause-ok
returns-clause-ok c =
    let s = c.self.inside in
    let watched = c.run_watched-watched in
    let ran = watched.result.ran in
    let machine = watched.new.machine in
    let inputs = inputs_of s.next c.args.steps in
    let last = c.in-Some.last in
    let (made, watches, ends) = watched.ensures in
    let (before, step, is, shown) = with_last made watched.result.last last c.in-Some.is ends in
    let same = c.as_slice-breaks.ensures.value in
    let on = subst (λ (breaks : List ℕ). Watches breaks s.machine inputs made ran machine) same watches in
    let whole = subst (λ (ts : List Traced). Watches s.breaks.items s.machine inputs ts ran machine) is on in
    let first = first_of_watch s.breaks.items s.machine inputs (before ++ step ∷ []) ran machine whole in
    let some = some_steps s.breaks.items s.machine inputs before step ran machine whole in
    let line =
    same_line step last c.put_trace.new.out.items shown
    (added_alone (IsTraceLine last) c.in_ok-answer.answer.items c.put_trace.new.out.items
    c.in_ok-answer.ensures.items c.put_trace.ensures.text) in
    rw (← c.self.view_is) (ran, machine, first, some, before, step, whole, line, c.settle.ensures)
