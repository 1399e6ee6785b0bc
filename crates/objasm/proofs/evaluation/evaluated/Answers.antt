use Rattle.std.proofs.Common.{reverse, ◌∙◌}
use Rattle.objasm.proofs.EvaluationLaws.{run_ends, run_goes, run_stops}
use Rattle.objasm.proofs.evaluation.evaluated.Goals as goal

pub returns-in-None : goal.returns-in-None
returns-in-None c =
    run_stops (reverse c.loop-symbol.stack.items) (reverse c.step.new.stack.items) c.loop-symbol.place c.args.symbols.now c.loop-symbol.symbol-index _ c.in_ok-next.field-0 _ c.loop-symbol-test.true c.in_ok-next.ensures c.in-None.is c.loop-symbol.invariant

pub loop-symbol-preserved : goal.loop-symbol-preserved
loop-symbol-preserved c =
    run_goes (reverse c.loop-symbol.stack.items) (reverse c.step.new.stack.items) c.loop-symbol.place c.in-Some.next c.args.symbols.now c.loop-symbol.symbol-index _ c.in_ok-next.field-0 _ c.loop-symbol-test.true c.in_ok-next.ensures c.in-Some.is c.loop-symbol.invariant

pub returns : goal.returns
returns c = c.finished.ensures ∙ run_ends (reverse c.loop-symbol.stack.items) c.loop-symbol.place c.args.symbols.now c.loop-symbol.symbol-index _ c.loop-symbol-test.false c.loop-symbol.invariant
