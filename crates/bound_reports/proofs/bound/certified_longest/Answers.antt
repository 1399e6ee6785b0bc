use Rattle.std.proofs.Common.{refl}
use Rattle.certificate.specs.Lines.{cert_text, said_of}
use Rattle.handlers.specs.Report.{BeforeOutput, IsRefused}
use Rattle.handlers.proofs.HandlerLemmas.{refused_as}
use Rattle.handlers.proofs.ReportLemmas.{accepted, longest_by_each, reported_bound}
use Rattle.bound_reports.proofs.bound.certified_longest.Goals as goal

pub returns-in_err-found-clause-fault : goal.returns-in_err-found-clause-fault
returns-in_err-found-clause-fault c = λ source statement profile loops.
    refused_as c.from_residual.result c.in_err-found.field-0.0 (BeforeOutput (IsRefused source statement profile)) c.from_residual.ensures.1
    (c.in_err-found.ensures.fault source statement profile loops)

pub returns-clause-report : goal.returns-clause-report
returns-clause-report c = λ source statement profile loops.
    let h = c.args.handler.now in
    let graph = loops.graph in
    reported_bound source statement profile h.statement h.graph h.tree loops c.requires
    c.in_ok-found.found (cert_text (said_of c.in_ok-found.found)) c.run_law.ensures c.graphs_are_well_formed.ensures c.in_ok-found.ensures.longest c.in_ok-found.ensures.allowed
    (λ other of cert said. c.longest_gets_yes.ensures graph.words h.statement profile h.graph other c.in_ok-found.found cert graph.graph_is c.graphs_are_well_formed.ensures
    of.tree_is (longest_by_each h.graph h.statement.loops h.tree other c.requires of c.in_ok-found.found c.in_ok-found.ensures.longest) said)
    refl

pub returns-clause-accepted : goal.returns-clause-accepted
returns-clause-accepted c = λ source statement profile loops.
    let h = c.args.handler.now in
    accepted source statement profile h.statement h.graph h.tree loops c.requires c.in_ok-found.ensures.allowed
