use Rattle.std.proofs.lemmas.Result.{err_from_is_err_and}
use Rattle.loop_bounds.proofs.ExtentLemmas.{nested}
use Rattle.loop_bounds.proofs.NestingLemmas.{known, no_plain_cycle, of_chains, of_ranks}
use Rattle.loop_bounds.proofs.nesting.nest_extents.Goals as goal

pub returns-then-not-all_enter_right-clause-fault : goal.returns-then-not-all_enter_right-clause-fault
returns-then-not-all_enter_right-clause-fault c =
    let n = known c.args.extents.now c.in_ok-parents.field-0 c.in-Some.parents c.in-Some.is c.in_ok-parents.ensures.nested in
    (nested c.args.extents.now c.in-Some.parents.items n, c.if-not-all_enter_right.ensures)

pub returns-in_err-ranks-clause-fault : goal.returns-in_err-ranks-clause-fault
returns-in_err-ranks-clause-fault c =
    let n = known c.args.extents.now c.in_ok-parents.field-0 c.in-Some.parents c.in-Some.is c.in_ok-parents.ensures.nested in
    let p = err_from_is_err_and c.from_residual-in_err-ranks.result c.from_residual-in_err-ranks.ensures.1 in
    rw (p.1, p.2) (of_ranks c.args.exit c.args.edges.now c.args.entry c.args.extents.now (nested c.args.extents.now c.in-Some.parents.items n) c.if-not-all_enter_right.ensures c.in_err-ranks.field-0.0 c.in_err-ranks.ensures.fault)

pub returns-in_err-chains-clause-fault : goal.returns-in_err-chains-clause-fault
returns-in_err-chains-clause-fault c =
    let n = known c.args.extents.now c.in_ok-parents.field-0 c.in-Some.parents c.in-Some.is c.in_ok-parents.ensures.nested in
    let p = err_from_is_err_and c.from_residual-in_err-chains.result c.from_residual-in_err-chains.ensures.1 in
    rw (p.1, p.2) (of_chains c.args.exit c.args.edges.now c.args.entry c.args.extents.now (nested c.args.extents.now c.in-Some.parents.items n) c.if-not-all_enter_right.ensures (no_plain_cycle c.args.exit c.args.edges.now c.args.extents.now c.in_ok-ranks.ranks.items c.in_ok-ranks.ensures.ranks) c.in_err-chains.field-0.0 c.in_err-chains.ensures.fault)

pub returns-clause-nesting : goal.returns-clause-nesting
returns-clause-nesting c = record {
  nested = known c.args.extents.now c.in_ok-parents.field-0 c.in-Some.parents c.in-Some.is c.in_ok-parents.ensures.nested;
  entered = c.if-not-all_enter_right.ensures;
  ranks = c.in_ok-ranks.ensures.ranks;
  whole = c.in_ok-chains.ensures.chains.0;
  chains = rw c.deref-3.ensures.value at c.in_ok-chains.ensures.chains.1;
  shallow = c.in_ok-chains.ensures.shallow;
}
