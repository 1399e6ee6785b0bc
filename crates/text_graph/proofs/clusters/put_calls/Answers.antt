use Rattle.std.proofs.Common.{◌++◌}
use Rattle.text_graph.specs.Clusters.{call_text, call_texts}
use Rattle.text_graph.specs.Parts.{scene_of}
use Rattle.text_graph.proofs.DrawLaws.{number_more, numbers_end}
use Rattle.text_graph.proofs.clusters.put_calls.Goals as goal

pub loop-depth-preserved : goal.loop-depth-preserved
loop-depth-preserved c =
    let scene = scene_of c.args.drawn in
    let node = c.args.node in
    number_more (call_text scene node.first node.calls.now) c.loop-depth.depth c.args.to c.loop-depth.out.items c.put_call.new.out.items
    (c.args.out.now.items ++ call_texts scene node.first node.calls.now c.args.from c.args.to) c.loop-depth.invariant c.loop-depth-test.true c.in_ok-put_call.ensures

pub returns : goal.returns
returns c =
    let scene = scene_of c.args.drawn in
    let node = c.args.node in
    numbers_end (call_text scene node.first node.calls.now) c.loop-depth.depth c.args.to c.loop-depth.out.items
    (c.args.out.now.items ++ call_texts scene node.first node.calls.now c.args.from c.args.to) c.loop-depth.invariant c.loop-depth-test.false
