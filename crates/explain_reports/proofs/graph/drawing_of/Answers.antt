use Rattle.handlers.specs.Report.{BeforeOutput, IsRefused}
use Rattle.explain_reports.proofs.GraphLemmas.{drawn}
use Rattle.handlers.proofs.HandlerLemmas.{refused_as}
use Rattle.handlers.proofs.ReportLemmas.{bound_fits}
use Rattle.explain_reports.proofs.graph.drawing_of.Goals as goal

pub returns-in_err-found-clause-fault : goal.returns-in_err-found-clause-fault
returns-in_err-found-clause-fault c = λ source statement profile loops.
    refused_as c.from_residual.result c.in_err-found.field-0.0 (BeforeOutput (IsRefused source statement profile)) c.from_residual.ensures.1
    (c.in_err-found.ensures.fault source statement profile loops)

pub returns-clause-draws : goal.returns-clause-draws
returns-clause-draws c = λ source statement profile is_read loops.
    let h = c.args.handler.now in
    let read = c.args.read.now in
    let found = c.in_ok-found.found in
    let is = c.in_ok-found.ensures.longest in
    let d = c.in_ok-text.ensures in
    drawn source statement profile read is_read h.statement h.graph h.tree loops c.requires
    found c.args.extent c.in_ok-text.text.items is c.in_ok-found.ensures.allowed
    (c.places_are_drawn_once.ensures.places h.graph h.tree c.graphs_are_well_formed.ensures c.requires.tree_is) (c.places_are_drawn_once.ensures.edges h.graph h.tree c.graphs_are_well_formed.ensures c.requires.tree_is) d
    (c.node_ticks_are_the_bound.ensures h.graph h.tree found.bound found.walk d.counts c.graphs_are_well_formed.ensures c.requires.tree_is is.walk_is (bound_fits h.graph h.tree found is) d.are_counts)
