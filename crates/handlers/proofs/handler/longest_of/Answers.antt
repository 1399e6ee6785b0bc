use Rattle.handlers.specs.Faults.{of_walk}
use Rattle.handlers.specs.Report.{BeforeOutput, IsRefused}
use Rattle.handlers.proofs.HandlerLemmas.{refused_as}
use Rattle.handlers.proofs.ReportLemmas.{tree_is_greatest, walk_refusal}
use Rattle.handlers.proofs.handler.longest_of.Goals as goal

pub returns-in_err-found-clause-fault : goal.returns-in_err-found-clause-fault
returns-in_err-found-clause-fault c = λ source statement profile loops.
    let h = c.args.handler.now in
    let f = c.in_err-found.field-0.0 in
    refused_as c.from_residual.result (of_walk f) (BeforeOutput (IsRefused source statement profile))
    c.from_residual.ensures.1
    (walk_refusal source statement profile h.statement h.graph h.tree loops c.requires f
    c.in_err-found.ensures.fault)

pub returns-clause-greatest : goal.returns-clause-greatest
returns-clause-greatest c =
    let h = c.args.handler.now in
    let found = c.in_ok-found.found in
    tree_is_greatest h.graph h.statement.loops h.tree c.requires.instances found.bound
    c.in_ok-found.ensures.longest.greatest
