use Rattle.std.proofs.Common.{length}
use Rattle.std.proofs.lemmas.Result.{err_from_is_err_and}
use Rattle.numbered_walks.specs.Found as numbered
use Rattle.longest_walk.proofs.CarryWalks.{fault_up}
use Rattle.longest_walk.proofs.greatest.numbers_of_walk.Goals as goal

pub returns-in_err-tables-clause-fault : goal.returns-in_err-tables-clause-fault
returns-in_err-tables-clause-fault c =
    let flow = c.args.graph.now in
    let tree = c.args.tree.now in
    let fault : numbered.IsWalkFault (length flow.places) tree.edges tree.spans c.in_err-tables.field-0.0 = rw (c.places-exit.ensures.value, c.edges-2.ensures, c.spans-2.ensures) at c.in_err-tables.ensures in
    let p = err_from_is_err_and c.from_residual-in_err-tables.result c.from_residual-in_err-tables.ensures.1 in
    rw (p.1, p.2) (fault_up flow tree c.places-exit.ensures.well_formed c.requires c.in_err-tables.field-0.0 fault)
