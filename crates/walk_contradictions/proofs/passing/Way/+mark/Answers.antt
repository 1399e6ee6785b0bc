use Rattle.std.proofs.Common.{◌∙◌, Vec, ap, arith}
use Rattle.std.specs.BTreeSet.{contains}
use Rattle.std.specs.Global.{Global}
use Rattle.std.specs.Ordering.{nat_cmp}
use Rattle.std.proofs.lemmas.Result.{on_ok_weaker}
use Rattle.longest_walk.specs.Folded.{unfolded}
use Rattle.longest_walk.specs.declared.folded.Item.{Item}
use Rattle.walk_contradictions.specs.Passing.{In, in_order}
use Rattle.walk_contradictions.proofs.OrderLemmas.{found_there, has_some_rounds, noted_all, noted_more, noted_rounds, noted_step, passed_more, passed_repeat, passed_step}
use Rattle.walk_contradictions.proofs.OrderLemmas.{rounds_noted}
use Rattle.walk_contradictions.proofs.passing.Way.+mark.Goals as goal

pub mark_item-returns-in-Step-clause-after : goal.mark_item-returns-in-Step-clause-after
mark_item-returns-in-Step-clause-after t c =
    on_ok_weaker c.mark_step.result
    (passed_step c.args.self.image.now c.args.self.direction c.args.item.now c.in-Step.edge (In c.args.set.now) c.mark_step.new.set c.in-Step.is) c.mark_step.ensures.after

pub mark_item-returns-in-Step-clause-notes : goal.mark_item-returns-in-Step-clause-notes
mark_item-returns-in-Step-clause-notes t c =
    on_ok_weaker c.mark_step.result
    (noted_step c.args.self.image.now c.args.self.direction c.args.item.now c.in-Step.edge (In c.args.set.now) (contains nat_cmp c.args.named.now)
    (contains nat_cmp c.mark_step.new.named) c.in-Step.is) c.mark_step.ensures.notes

pub mark_item-returns-in-Repeat-clause-after : goal.mark_item-returns-in-Repeat-clause-after
mark_item-returns-in-Repeat-clause-after t c =
    on_ok_weaker c.mark_rounds.result
    (passed_repeat c.args.self.image.now c.args.self.direction c.args.item.now c.in-Repeat.rounds c.in-Repeat.body c.deref-in-Repeat.result.now c.in-Repeat.is
    (c.deref-in-Repeat.ensures.value ∙ ap (λ (v : Vec Item Global). v.items) c.deref.ensures) (In c.args.set.now) c.mark_rounds.new.set) c.mark_rounds.ensures.after

pub mark_item-returns-in-Repeat-clause-notes : goal.mark_item-returns-in-Repeat-clause-notes
mark_item-returns-in-Repeat-clause-notes t c =
    on_ok_weaker c.mark_rounds.result
    (noted_rounds c.args.self.image.now c.args.self.direction c.args.item.now c.in-Repeat.rounds c.in-Repeat.body c.deref-in-Repeat.result.now c.in-Repeat.is
    (c.deref-in-Repeat.ensures.value ∙ ap (λ (v : Vec Item Global). v.items) c.deref.ensures) (In c.args.set.now) (contains nat_cmp c.args.named.now)
    (contains nat_cmp c.mark_rounds.new.named)) c.mark_rounds.ensures.notes

pub mark_items-loop-number-preserved : goal.mark_items-loop-number-preserved
mark_items-loop-number-preserved t c =
    let found = found_there c.args.self.direction c.args.items.now c.place_at.result c.loop-number.number c.index-items-place_at.result c.place_at.ensures.inside
    c.place_at.ensures.item c.index-items-place_at.is in (
      passed_more c.args.self.image.now c.args.self.direction c.args.items.now (In c.args.before.now) c.loop-number.number c.index-items-place_at.result
          c.loop-number-test.true found c.loop-number.set c.mark_item.new.set c.loop-number.invariant.0 c.in_ok-mark_item.ensures.after,
      noted_more c.args.self.image.now c.args.self.direction c.args.items.now (In c.args.before.now) c.loop-number.number c.index-items-place_at.result
          c.loop-number-test.true found c.loop-number.set (contains nat_cmp c.args.named.now) (contains nat_cmp c.loop-number.named)
          (contains nat_cmp c.mark_item.new.named) c.loop-number.invariant.1 c.loop-number.invariant.0 c.in_ok-mark_item.ensures.notes,
    )

pub mark_items-returns : goal.mark_items-returns
mark_items-returns t c =
    noted_all c.args.self.image.now c.args.self.direction c.args.items.now (In c.args.before.now) c.loop-number.number (contains nat_cmp c.args.named.now)
    (contains nat_cmp c.loop-number.named) c.loop-number-test.false c.loop-number.invariant.1

pub mark_rounds-returns-clause-after : goal.mark_rounds-returns-clause-after
mark_rounds-returns-clause-after t c =
    on_ok_weaker c.mark_items.result
    (λ _. has_some_rounds c.args.self.image.now c.args.self.direction c.args.rounds (in_order c.args.self.direction (unfolded c.args.body.now)) (In c.args.set.now)
    c.pass_items.new.set (omega (arith, c.if-rounds-eq0.false)) c.pass_items.ensures) c.mark_items.ensures

pub mark_rounds-returns-clause-notes : goal.mark_rounds-returns-clause-notes
mark_rounds-returns-clause-notes t c =
    on_ok_weaker c.mark_items.result
    (rounds_noted c.args.self.image.now c.args.self.direction c.args.rounds (in_order c.args.self.direction (unfolded c.args.body.now)) c.args.set.now
    c.pass_items.new.set c.before_rounds.result (contains nat_cmp c.args.named.now) (contains nat_cmp c.mark_items.new.named)
    (omega (arith, c.if-rounds-eq0.false)) c.pass_items.ensures c.before_rounds.ensures.once c.before_rounds.ensures.more) c.mark_items.ensures
