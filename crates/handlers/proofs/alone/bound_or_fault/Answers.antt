use Rattle.std.proofs.Common.{◌≢◌}
use Rattle.loop_bounds.specs.Handler.{IsTreeOf}
use Rattle.handlers.specs.Alone.{IsGraphOf, IsRefusalOf}
use Rattle.handlers.specs.Faults.{of_loops, of_walk}
use Rattle.handlers.specs.declared.fault.ReportFault.TheVariants.{Memory}
use Rattle.handlers.proofs.AloneLemmas.{bound_found, looped, loops_refused, walk_refused}
use Rattle.handlers.proofs.HandlerLemmas.{refused_as}
use Rattle.handlers.proofs.alone.bound_or_fault.Goals as goal

pub returns-in_err-tree-clause-fault : goal.returns-in_err-tree-clause-fault
returns-in_err-tree-clause-fault c =
    let words = c.args.image.now in
    let st = c.args.statement.now in
    let profile = c.args.profile.now in
    let f = c.in_err-tree.field-0.0 in
    let graph : IsGraphOf words st profile c.in_ok-graph.graph =
    record { no_fault = c.in_ok-graph.ensures.allowed; graph_is = c.in_ok-graph.ensures.graph } in
    refused_as c.from_residual-in_err-tree.result (of_loops f) (λ fault. fault ≢ Memory
    → IsRefusalOf words st profile fault) c.from_residual-in_err-tree.ensures.1
    (loops_refused words st profile c.in_ok-graph.graph graph f c.in_err-tree.ensures.fault)

pub returns-in_err-found-clause-fault : goal.returns-in_err-found-clause-fault
returns-in_err-found-clause-fault c =
    let words = c.args.image.now in
    let st = c.args.statement.now in
    let profile = c.args.profile.now in
    let f = c.in_err-found.field-0.0 in
    let flow = c.in_ok-graph.graph in
    let graph : IsGraphOf words st profile c.in_ok-graph.graph =
    record { no_fault = c.in_ok-graph.ensures.allowed; graph_is = c.in_ok-graph.ensures.graph } in
    let of : IsTreeOf c.in_ok-graph.graph st.loops c.in_ok-tree.tree =
    record {
      tree_is = c.in_ok-tree.ensures.tree;
      instances = c.in_ok-tree.ensures.instances;
      apart = c.in_ok-tree.ensures.apart;
    } in
    refused_as c.from_residual-in_err-found.result (of_walk f) (λ fault. fault ≢ Memory
    → IsRefusalOf words st profile fault) c.from_residual-in_err-found.ensures.1
    (walk_refused words st profile flow (looped words st profile flow graph c.in_ok-tree.ensures.allowed)
    c.in_ok-tree.tree of f c.in_err-found.ensures.fault)

pub returns-clause-bound : goal.returns-clause-bound
returns-clause-bound c =
    let words = c.args.image.now in
    let st = c.args.statement.now in
    let profile = c.args.profile.now in
    let flow = c.in_ok-graph.graph in
    let graph : IsGraphOf words st profile c.in_ok-graph.graph =
    record { no_fault = c.in_ok-graph.ensures.allowed; graph_is = c.in_ok-graph.ensures.graph } in
    let of : IsTreeOf c.in_ok-graph.graph st.loops c.in_ok-tree.tree =
    record {
      tree_is = c.in_ok-tree.ensures.tree;
      instances = c.in_ok-tree.ensures.instances;
      apart = c.in_ok-tree.ensures.apart;
    } in
    bound_found words st profile flow (looped words st profile flow graph c.in_ok-tree.ensures.allowed)
    c.in_ok-tree.tree of c.in_ok-found.found
    c.in_ok-found.ensures.longest c.in_ok-found.ensures.allowed
