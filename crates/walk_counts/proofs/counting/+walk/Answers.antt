use Rattle.std.proofs.Common.{rules, ◌∙◌, Vec, ap}
use Rattle.std.specs.Global.{Global}
use Rattle.longest_walk.specs.declared.folded.Item.{Item}
use Rattle.walk_counts.proofs.CountLemmas.{counts_item, counts_items, counts_none, of_rounds, of_step}
use Rattle.walk_counts.proofs.counting.+walk.Goals as goal

pub count_item-returns-in-Step : goal.count_item-returns-in-Step
count_item-returns-in-Step t c =
    of_step c.args.graph.now.edges c.args.times c.args.item.now c.in-Step.edge c.args.counts.now c.count_edge.new.counts c.in-Step.is c.count_edge.ensures

pub count_item-returns-in-Repeat : goal.count_item-returns-in-Repeat
count_item-returns-in-Repeat t c =
    of_rounds c.args.graph.now.edges c.args.times c.args.item.now c.in-Repeat.rounds c.in-Repeat.body c.deref-in-Repeat.result.now c.capped_product.result c.args.counts.now
    c.count_items.new.counts c.in-Repeat.is (c.deref-in-Repeat.ensures.value ∙ ap (λ (v : Vec Item Global). v.items) c.deref.ensures) c.capped_product.ensures c.count_items.ensures

pub count_items-loop-item-init : goal.count_items-loop-item-init
count_items-loop-item-init t c = counts_none c.args.graph.now.edges c.args.times c.args.counts.now (λ k. search (rules, c.type_inv.counts k))

pub count_items-loop-item-preserved : goal.count_items-loop-item-preserved
count_items-loop-item-preserved t c =
    counts_item c.args.graph.now.edges c.args.times c.args.items.now c.loop-item.item-index c.item-item.result c.args.counts.now c.loop-item.counts
    c.count_item.new.counts c.loop-item-test.true c.item-item.is c.loop-item.invariant c.count_item.ensures

pub count_items-returns : goal.count_items-returns
count_items-returns t c =
    counts_items c.args.graph.now.edges c.args.times c.args.items.now c.loop-item.item-index c.args.counts.now c.loop-item.counts c.loop-item-test.false c.loop-item.invariant
