use Rattle.std.proofs.Common.{get_or, arith}
use Rattle.std.proofs.lemmas.List.Elements.{Contains-get_or}
use Rattle.numbered_walks.specs.Index.{edge_at}
use Rattle.numbered_walks.proofs.Grouping.{edge_of, from_low}
use Rattle.numbered_walks.proofs.PassLemmas.{heaviest_take}
use Rattle.numbered_walks.proofs.row.heaviest.Goals as goal

pub loop-number-preserved : goal.loop-number-preserved
loop-number-preserved c =
    heaviest_take c.args.graph.spans.now c.args.tables.now c.args.graph.edges.now c.args.group.now c.loop-number.number-index 0 c.loop-number.best c.in_ok-needed.needed c.max-best.result
    (omega arith) c.loop-number.invariant c.in_ok-needed.ensures c.if-needed-ge-COST_LIMIT.false c.max-best.ensures

pub needed_in-requires-clause-known : goal.needed_in-requires-clause-known
needed_in-requires-clause-known c =
    from_low c.args.graph.exit c.args.graph.edges.now c.args.graph.spans.now c.requires.graph.ordered (get_or c.args.group.now c.loop-number.number-index 0)
    (c.requires.known c.loop-number.number-index 0 c.loop-number-test.true)

pub returns-then-needed-ge-COST_LIMIT : goal.returns-then-needed-ge-COST_LIMIT
returns-then-needed-ge-COST_LIMIT c =
    let edges = c.args.graph.edges.now in
    let k = get_or c.args.group.now c.loop-number.number-index 0 in
    (edge_at edges k, edge_of edges c.args.group.now k (Contains-get_or c.args.group.now c.loop-number.number-index 0 c.loop-number-test.true), omega (arith, c.in_ok-needed.ensures, c.if-needed-ge-COST_LIMIT.true))

pub returns-in_err-needed : goal.returns-in_err-needed
returns-in_err-needed c =
    let edges = c.args.graph.edges.now in
    let k = get_or c.args.group.now c.loop-number.number-index 0 in
    rw c.from_residual.ensures (edge_at edges k, edge_of edges c.args.group.now k (Contains-get_or c.args.group.now c.loop-number.number-index 0 c.loop-number-test.true), omega (arith, c.in_err-needed.ensures))
