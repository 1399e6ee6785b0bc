use Rattle.std.proofs.Common.{◌∙◌, ◌++◌, flat_map}
use Rattle.text_graph.specs.Clusters.{called_name}
use Rattle.text_graph.specs.Parts.{scene_of}
use Rattle.text_graph.specs.Stretches.{between}
use Rattle.text_graph.proofs.DrawLaws.{number_more, numbers_end}
use Rattle.text_graph.proofs.clusters.put_routine_names.Goals as goal

pub loop-number-preserved : goal.loop-number-preserved
loop-number-preserved c =
    let f = called_name (scene_of c.args.drawn) in
    let range = c.edge_range_in-first.result in
    number_more f c.loop-number.number range.1 c.loop-number.out.items c.put_called_name.new.out.items (c.args.out.now.items ++ flat_map f (between range.0 range.1))
    c.loop-number.invariant c.loop-number-test.true c.in_ok-put_called_name.ensures

pub returns : goal.returns
returns c =
    let f = called_name (scene_of c.args.drawn) in
    let range = c.edge_range_in-first.result in
    numbers_end f c.loop-number.number range.1 c.loop-number.out.items (c.args.out.now.items ++ flat_map f (between range.0 range.1)) c.loop-number.invariant c.loop-number-test.false
    ∙ (λ i. c.args.out.now.items ++ flat_map f (between (c.edge_range_in-first.ensures.first i) (c.edge_range_in-first.ensures.end i)))
