use Rattle.std.proofs.Common.{◌∙◌, ◌-◌, ℕ, List, ap, arith, drop, inl, length, subst}
use Rattle.std.proofs.lemmas.List.{length-drop, take_all}
use Rattle.arm2_exec.specs.declared.machine.Input.{Input}
use Rattle.kept_runs.specs.Arriving.{ArrivesAfter}
use Rattle.kept_runs.specs.Visited.{IsVisitedRun, handled}
use Rattle.follow_reports.specs.VisitedWork.{IsRunText}
use Rattle.follow_reports.proofs.follow_visits.visits_judged.Goals as goal
use Rattle.sources.specs.File.{file_of}

pub follow_visited-requires-clause-machine : goal.follow_visited-requires-clause-machine
follow_visited-requires-clause-machine c = c.arrive.ensures.machine c.args.both.irq.now.handler.graph c.requires.machine

pub returns-clause-judged : goal.returns-clause-judged
returns-clause-judged c =
    let b = c.args.both in
    let start = c.args.placed.now.machine in
    let now = c.arrive.new.machine in
    let after = c.follow_visited.new.machine in
    let before = c.in-Some.before in
    let run = c.in_ok-run.run' in
    let inputs = c.in_ok-inputs.inputs.items in
    let at_entry : ArrivesAfter b.irq.now.handler.statement.entry start c.deref.result.now before now =
    subst (λ (e : ℕ). ArrivesAfter e start c.deref.result.now before now) c.entry-entry.ensures.value c.in-Some.ensures.arrives in
    let arrives : ArrivesAfter b.irq.now.handler.statement.entry start inputs before now =
    subst (λ (is : List Input). ArrivesAfter b.irq.now.handler.statement.entry start is before now) c.deref.ensures.value at_entry in
    let xs = c.deref-2.result.now in
    let rest = take_all (length xs - before) (drop before xs) (omega (arith, length-drop before xs)) ∙ ap (drop before) c.deref-2.ensures.value in
    let judged : IsVisitedRun (handled b.irq.now.handler) (handled b.fiq.now.handler) now (drop before inputs) after run =
    subst (λ (is : List Input). IsVisitedRun (handled b.irq.now.handler) (handled b.fiq.now.handler) now is after run) rest c.in_ok-run.ensures.followed in
    let j = c.in_ok-run_answer.field-0 in
    record {
      inputs = inputs;
      inputs_are = c.in_ok-inputs.ensures;
      is_text = inl (record {
        before = before;
        now = now;
        arrives = arrives;
        after = after;
        run = run;
        judged = judged;
        is_text = subst (λ (at : ℕ). IsRunText (file_of b.source) b.read.now.image c.args.profile.now b.irq.now b.fiq.now before at run j.kept j.text.items) c.address-after.ensures.address c.in_ok-run_answer.ensures;
      });
    }
