use Rattle.std.proofs.Common.{rules, subst, sym}
use Rattle.bus_ticks.specs.declared.profile.Profile.{Profile}
use Rattle.control_flow.specs.Edges.{IsEdge}
use Rattle.control_flow.specs.Flow.{HasEdge}
use Rattle.flow_graph.proofs.TightMade.{edge_lands}
use Rattle.control_flow.proofs.FlowLemmas.{has_edge_is_edge}
use Rattle.flow_graph.proofs.tight.tight_state.Goals as goal

pub tight_edge-requires-clause-is_edge : goal.tight_edge-requires-clause-is_edge
tight_edge-requires-clause-is_edge c =
    let has : HasEdge c.args.graph.now c.index-edges-edge.result = (c.args.edge, c.requires.edge, search rules) in
    subst (λ (p : Profile). IsEdge c.args.image.now c.args.statement.now p c.index-edges-edge.result) (sym c.profile-profile.ensures.value)
    (has_edge_is_edge c.args.image.now c.args.statement.now c.args.graph.now.profile c.args.graph.now c.requires.graph c.index-edges-edge.result has)

pub tight_edge-requires-clause-lands : goal.tight_edge-requires-clause-lands
tight_edge-requires-clause-lands c =
    let has : HasEdge c.args.graph.now c.index-edges-edge.result = (c.args.edge, c.requires.edge, search rules) in
    edge_lands c.args.image.now c.args.statement.now c.args.graph.now.profile c.args.graph.now c.requires.graph c.index-edges-edge.result has
