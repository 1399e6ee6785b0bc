use Rattle.std.proofs.Common.{◌∙◌, ap}
use Rattle.std.specs.Prelude.{◌||◌}
use Rattle.std.specs.BTreeSet.{contains}
use Rattle.std.specs.List.{list_any}
use Rattle.std.specs.Ordering.{nat_cmp}
use Rattle.std.proofs.lemmas.List.{take_all}
use Rattle.text_explained.specs.PartSums.{in_group}
use Rattle.text_explained.proofs.LoopPartLaws.{front_more}
use Rattle.text_explained.proofs.routines.Routines.add_called.Goals as goal

pub loop-call-preserved : goal.loop-call-preserved
loop-call-preserved c = λ n.
    front_more (λ call. in_group c.args.self.now.called_by.by_key call n) c.args.calls.now c.loop-call.call-index 0 c.loop-call-test.true
    (contains nat_cmp c.args.parts.now n) (contains nat_cmp c.loop-call.parts n) (contains nat_cmp c.add_to.new.parts n) (c.loop-call.invariant n)
    (c.in_ok-add_to.ensures n ∙ ap (λ k. contains nat_cmp c.loop-call.parts n || in_group c.args.self.now.called_by.by_key k n) c.from.ensures)

pub returns : goal.returns
returns c = λ n.
    c.loop-call.invariant n
    ∙ ap (λ calls. contains nat_cmp c.args.parts.now n || list_any (λ call. in_group c.args.self.now.called_by.by_key call n) calls)
    (take_all c.loop-call.call-index c.args.calls.now c.loop-call-test.false)
