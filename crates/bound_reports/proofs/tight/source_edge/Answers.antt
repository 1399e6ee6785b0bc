use Rattle.std.proofs.Common.{subst}
use Rattle.bus_ticks.specs.declared.profile.Profile.{Profile}
use Rattle.handlers.specs.Report.{BeforeOutput}
use Rattle.handlers.proofs.RefusalLemmas.{stop_carries, stop_err}
use Rattle.bound_reports.specs.TightReport.{IsTightRefused}
use Rattle.bound_reports.proofs.tight.source_edge.Goals as goal
use Rattle.sources.specs.File.{file_of}

pub returns-in_err-graph_edge-clause-fault : goal.returns-in_err-graph_edge-clause-fault
returns-in_err-graph_edge-clause-fault c =
    let asked = c.args.asked in
    let graph = c.in_ok-statement.ensures.graph in
    let e = c.in_err-graph_edge.field-0.0 in
    stop_err c.from_residual-in_err-graph_edge.result e (BeforeOutput (IsTightRefused (file_of asked.source) asked.statement.now asked.number c.args.profile.now)) c.from_residual-in_err-graph_edge.ensures.1
    (subst (λ (p : Profile). BeforeOutput (IsTightRefused (file_of asked.source) asked.statement.now asked.number p) e) graph.graph_is.profile_is c.in_err-graph_edge.ensures.fault)

pub returns-in_err-graph_edge-clause-carries : goal.returns-in_err-graph_edge-clause-carries
returns-in_err-graph_edge-clause-carries c =
    stop_carries c.args.said.now c.args.asked.statement.now c.args.profile.now c.from_residual-in_err-graph_edge.result c.in_err-graph_edge.field-0.0 c.from_residual-in_err-graph_edge.ensures.1 c.in_err-graph_edge.ensures.alone
