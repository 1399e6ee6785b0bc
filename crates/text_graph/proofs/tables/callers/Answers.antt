use Rattle.std.specs.BTreeMap.{get}
use Rattle.std.specs.Ordering.{nat_cmp}
use Rattle.text_graph.proofs.CallerLaws.{callers_all, callers_more}
use Rattle.text_graph.proofs.tables.callers.Goals as goal

pub loop-edge-preserved : goal.loop-edge-preserved
loop-edge-preserved c =
    callers_more c.args.graph.now c.args.tree.now c.edges-edge-items.result.now c.loop-edge.edge-index _ (get nat_cmp c.loop-edge.callers) (get nat_cmp c.note_caller.new.callers) c.loop-edge-test.true
    c.loop-edge.invariant c.in_ok-note_caller.ensures

pub returns : goal.returns
returns c =
    callers_all c.args.graph.now c.args.tree.now c.edges-edge-items.result.now c.loop-edge.edge-index (get nat_cmp c.loop-edge.callers) c.edges-edge-items.ensures c.loop-edge-test.false c.loop-edge.invariant
