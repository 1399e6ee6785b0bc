use Rattle.std.proofs.Common.{◌++◌, List, append-nil, map, ap, sym, ◌∙◌}
use Rattle.std.proofs.lemmas.List.{take_all}
use Rattle.statement.specs.declared.stated.Loop.{Loop}
use Rattle.loop_bounds.proofs.FindLemmas.{added, differ_more, found_at, found_more}
use Rattle.loop_bounds.proofs.loop_instances.add_instances.Goals as goal

pub loop-stated-init : goal.loop-stated-init
loop-stated-init c = sym (append-nil c.args.found.now.items)

pub loop-stated-preserved : goal.loop-stated-preserved
loop-stated-preserved c = c.in_ok-push.ensures.items ∙ found_more c.args.found.now.items c.loop-stated.found.items c.in-At.list c.loops_at-stated-items.result.now c.loop-stated.stated-index c.loop-stated-test.true c.loop-stated.invariant

pub returns-after-loop-stated-clause-added : goal.returns-after-loop-stated-clause-added
returns-after-loop-stated-clause-added c = λ apart. rw c.in-At.is (added apart c.loops_at-stated-items.result.now c.args.sorted.now c.in-At.list c.in-At.address c.args.found.now.items c.loop-stated.found.items c.loops_at-stated-items.ensures.exact
    (c.loop-stated.invariant ∙ ap (λ (xs : List Loop). c.args.found.now.items ++ map (found_at c.in-At.list) xs) (take_all c.loop-stated.stated-index c.loops_at-stated-items.result.now c.loop-stated-test.false)))

pub returns-after-loop-stated-clause-differ : goal.returns-after-loop-stated-clause-differ
returns-after-loop-stated-clause-differ c = rw c.in-At.is (λ headers old apart.
    differ_more c.loops_at-stated-items.result.now c.in-At.list c.in-At.address c.args.found.now.items c.loop-stated.found.items (c.loops_at-stated-items.ensures.one headers) (λ l has. ((c.loops_at-stated-items.ensures.exact l).0 has).1)
    (c.loop-stated.invariant ∙ ap (λ (xs : List Loop). c.args.found.now.items ++ map (found_at c.in-At.list) xs) (take_all c.loop-stated.stated-index c.loops_at-stated-items.result.now c.loop-stated-test.false)) old apart)
