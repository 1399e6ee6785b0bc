use Rattle.std.proofs.Common.{◌+◌, ℕ, List, get_or, sym, subst}
use Rattle.control_flow.specs.Flow.{IsEdgeRange}
use Rattle.control_flow.specs.Places.{place_at}
use Rattle.control_flow.proofs.Firsts.{range_at}
use Rattle.control_flow.proofs.graph.Graph.edge_range.Goals as goal

pub returns-clause-range : goal.returns-clause-range
returns-clause-range c =
    let flow = c.args.self.now in
    subst (λ (fs : List ℕ). IsEdgeRange flow (place_at flow.places c.args.place) (get_or fs c.args.place 0) (get_or fs (c.args.place + 1) 0)) (sym c.firsts-firsts.ensures.value)
    (range_at flow c.firsts-firsts.ensures.well_formed c.args.place c.requires)
