use Rattle.std.proofs.Common.{◌∙◌, ◌++◌, flat_map}
use Rattle.text_graph.specs.Stretches.{between}
use Rattle.text_graph.specs.Parts.{scene_of}
use Rattle.text_graph.specs.Text.{drawn_edge}
use Rattle.text_graph.proofs.DrawLaws.{number_more, numbers_end}
use Rattle.text_graph.proofs.drawn_edges.put_edges.Goals as goal

pub loop-number-preserved : goal.loop-number-preserved
loop-number-preserved c =
    let d = c.args.drawn in
    let f = drawn_edge (scene_of d) c.args.first in
    number_more f c.loop-number.number c.edge_range_in-begin.result.1 c.loop-number.out.items c.put_drawn_edge.new.out.items
    (c.args.out.now.items ++ flat_map f (between c.edge_range_in-begin.result.0 c.edge_range_in-begin.result.1)) c.loop-number.invariant c.loop-number-test.true c.in_ok-put_drawn_edge.ensures

pub returns : goal.returns
returns c =
    let d = c.args.drawn in
    let f = drawn_edge (scene_of d) c.args.first in
    numbers_end f c.loop-number.number c.edge_range_in-begin.result.1 c.loop-number.out.items
    (c.args.out.now.items ++ flat_map f (between c.edge_range_in-begin.result.0 c.edge_range_in-begin.result.1)) c.loop-number.invariant c.loop-number-test.false
    ∙ (λ i. c.args.out.now.items ++ flat_map f (between (c.edge_range_in-begin.ensures.first i) (c.edge_range_in-begin.ensures.end i)))
