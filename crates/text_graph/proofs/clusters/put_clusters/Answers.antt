use Rattle.std.proofs.Common.{◌++◌, arith}
use Rattle.std.proofs.lemmas.Result.{on_ok_weaker}
use Rattle.text_graph.specs.Clusters.{clusters}
use Rattle.text_graph.specs.Parts.{scene_of}
use Rattle.text_graph.proofs.StretchLaws.{cluster_more, clusters_end}
use Rattle.text_graph.proofs.clusters.put_clusters.Goals as goal

pub loop-span-preserved : goal.loop-span-preserved
loop-span-preserved c =
    let scene = scene_of c.args.drawn in
    record {
      within = omega (arith, c.max-inside.ensures, c.depth_in-depth.ensures, c.loop-span.invariant.within);
      same =
          cluster_more scene c.args.node.first c.args.node.calls.now c.args.loops.now c.loop-span.span-index _ c.loop-span.inside c.depth_in-depth.result c.max-inside.result
          c.loop-span.out.items c.put_calls.new.out.items c.put_loop.new.out.items
          (c.args.out.now.items ++ clusters scene c.args.node.first c.args.node.calls.now 0 c.args.loops.now) c.loop-span.invariant.same c.loop-span-test.true
          c.depth_in-depth.ensures c.in_ok-put_calls.ensures c.in_ok-put_loop.ensures c.max-inside.ensures;
    }

pub returns : goal.returns
returns c =
    let scene = scene_of c.args.drawn in
    on_ok_weaker c.put_calls-2.result
    (clusters_end scene c.args.node.first c.args.node.calls.now c.args.loops.now c.loop-span.span-index c.loop-span.inside c.loop-span.out.items c.put_calls-2.new.out.items
    (c.args.out.now.items ++ clusters scene c.args.node.first c.args.node.calls.now 0 c.args.loops.now) c.loop-span.invariant.same c.loop-span-test.false)
    c.put_calls-2.ensures
