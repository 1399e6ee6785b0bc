use Rattle.std.proofs.Common.{◌+◌, ◌∙◌, List, ℕ, ap, get_or}
use Rattle.control_flow.proofs.Firsts.{range_firsts}
use Rattle.loop_bounds.proofs.EdgeRanges.{place_known, range_of_number}
use Rattle.loop_bounds.proofs.tree.edge_range_in.Goals as goal

pub edge_range-requires : goal.edge_range-requires
edge_range-requires c = place_known c.args.graph.now c.args.tree.now c.requires.tree c.args.number c.requires.known c.order.result.now c.order.ensures

pub returns : goal.returns
returns c =
    let flow = c.args.graph.now in
    let order = c.order.result.now in
    let at = place_known flow c.args.tree.now c.requires.tree c.args.number c.requires.known order c.order.ensures in
    let firsts = range_firsts flow c.edge_range.ensures.well_formed (get_or order c.args.number 0) at c.edge_range.result.0 c.edge_range.result.1 c.edge_range.ensures.range in
    record {
      range = range_of_number flow c.args.tree.now c.requires.tree c.args.number c.requires.known order c.order.ensures c.edge_range.result.0 c.edge_range.result.1 c.edge_range.ensures.range;
      first = firsts.0 ∙ ap (λ (ns : List ℕ). get_or flow.firsts (get_or ns c.args.number 0) 0) c.order.ensures;
      end = firsts.1 ∙ ap (λ (ns : List ℕ). get_or flow.firsts (get_or ns c.args.number 0 + 1) 0) c.order.ensures;
    }
