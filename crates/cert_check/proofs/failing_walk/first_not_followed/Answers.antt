use Rattle.cert_check.proofs.FrontLemmas.{fronts_all, fronts_more, fronts_none, fronts_stray}
use Rattle.cert_check.proofs.failing_walk.first_not_followed.Goals as goal

pub follow_one-requires : goal.follow_one-requires
follow_one-requires c = c.loop-number.invariant.can

pub returns-then-not-follow_one : goal.returns-then-not-follow_one
returns-then-not-follow_one c =
    fronts_stray c.args.indexed.graph.now c.args.indexed.tree.now c.args.indexed.index.now c.args.within.now 16 c.args.items.now c.requires.well_formed c.loop-number.number c.args.walker.now c.loop-number.walker c.loop-number.invariant.front
    c.index-items-number.result c.loop-number-test.true c.index-items-number.is c.loop-number.invariant.can c.if-not-follow_one.ensures

pub loop-number-init : goal.loop-number-init
loop-number-init c = record {
  can = c.requires;
  front = fronts_none c.args.indexed.graph.now c.args.indexed.tree.now c.args.indexed.index.now c.args.within.now 16 c.args.items.now c.args.walker.now;
}

pub loop-number-preserved : goal.loop-number-preserved
loop-number-preserved c =
    let done = c.if-not-follow_one.ensures in
    record {
      can = done.ready;
      front = fronts_more c.args.indexed.graph.now c.args.indexed.tree.now c.args.indexed.index.now c.args.within.now 16 c.args.items.now c.requires.well_formed c.loop-number.number c.args.walker.now c.loop-number.walker c.loop-number.invariant.front
          c.follow_one.new.walker c.index-items-number.result c.loop-number-test.true c.index-items-number.is c.requires.tree_is done;
    }

pub returns : goal.returns
returns c =
    fronts_all c.args.indexed.graph.now c.args.indexed.tree.now c.args.indexed.index.now c.args.within.now 16 c.args.items.now c.requires.well_formed c.loop-number.number c.args.walker.now c.loop-number.walker c.loop-number.invariant.front
    c.loop-number-test.false c.loop-number.invariant.can
