use Rattle.std.proofs.Common.{◌∙◌, sym}
use Rattle.std.proofs.lemmas.Bool.{not-true}
use Rattle.loop_bounds.proofs.FindLemmas.{none_shared, seen_more, shared_here, true_from_not}
use Rattle.loop_bounds.proofs.loop_instances.shares_header.Goals as goal

pub loop-stated-preserved : goal.loop-stated-preserved
loop-stated-preserved c = let a = c.in_ok-is_new.ensures.added in let u = c.in_ok-is_new.ensures.updates in seen_more c.args.loops.now c.loop-stated.headers c.insert.new.self c.loop-stated.stated-index c.loop-stated.invariant c.loop-stated-test.true (not-true _ (sym a ∙ c.if-not-is_new.false)) u.0

pub returns-then-not-is_new-clause-shared : goal.returns-then-not-is_new-clause-shared
returns-then-not-is_new-clause-shared c = let a = c.in_ok-is_new.ensures.added in λ _. shared_here c.args.loops.now c.loop-stated.headers c.loop-stated.stated-index c.loop-stated.invariant c.loop-stated-test.true (true_from_not _ (sym c.if-not-is_new.true ∙ a))

pub returns-clause-apart : goal.returns-clause-apart
returns-clause-apart c = λ _. none_shared c.args.loops.now c.loop-stated.headers c.loop-stated.stated-index c.loop-stated.invariant c.loop-stated-test.false
