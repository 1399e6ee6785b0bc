use Rattle.std.proofs.Common.{◌∙◌, ap}
use Rattle.std.specs.Prelude.{◌||◌}
use Rattle.std.specs.BTreeSet.{contains}
use Rattle.std.specs.List.{list_any}
use Rattle.std.specs.Ordering.{nat_cmp}
use Rattle.std.proofs.lemmas.List.{take_all}
use Rattle.statement.specs.Stated.{lies_within}
use Rattle.statement.specs.declared.stated.Loop.{Loop}
use Rattle.text_explained.specs.PartSums.{passes_at}
use Rattle.text_explained.proofs.LoopPartLaws.{front_more}
use Rattle.text_explained.proofs.loop_table.LoopTable.add_calls.Goals as goal

pub loop-call-preserved : goal.loop-call-preserved
loop-call-preserved c = λ n.
    let t = c.args.self.now in
    front_more (λ call. passes_at t.loops.now (λ (x : Loop). lies_within t.apart.now x.first call x.last) n) c.args.calls.now c.loop-call.call-index 0 c.loop-call-test.true
    (contains nat_cmp c.args.parts.now n) (contains nat_cmp c.loop-call.parts n) (contains nat_cmp c.add_to.new.parts n) (c.loop-call.invariant n) (c.in_ok-add_to.ensures n)

pub returns : goal.returns
returns c = λ n.
    let t = c.args.self.now in
    c.loop-call.invariant n
    ∙ ap (λ calls. contains nat_cmp c.args.parts.now n || list_any (λ call. passes_at t.loops.now (λ (x : Loop). lies_within t.apart.now x.first call x.last) n) calls)
    (take_all c.loop-call.call-index c.args.calls.now c.loop-call-test.false)
