use Rattle.std.proofs.Common.{◌≡◌, ℕ, ◌+◌, get_or, take, List, sym, subst, arith}
use Rattle.std.proofs.lemmas.Bool.{both_ways}
use Rattle.std.proofs.lemmas.List.{take_all}
use Rattle.std.proofs.lemmas.List.Elements.{Contains-get_or}
use Rattle.numbered_walks.specs.Index.{edge_at}
use Rattle.numbered_walks.specs.Tables.{needed}
use Rattle.numbered_walks.proofs.Grouping.{from_low}
use Rattle.numbered_walks.proofs.LastFound.{IsFoundIn, passed_over}
use Rattle.numbered_walks.proofs.trace.attaining.Goals.{then-needs, else-needs}
use Rattle.numbered_walks.proofs.trace.attaining.Goals as goal

pub loop-k-preserved : goal.loop-k-preserved
loop-k-preserved c =
    let asks = λ (k : ℕ). needed c.args.graph.spans.now c.args.tables.now (edge_at c.args.graph.edges.now k) ≡ c.args.ticks in
    let group = c.args.group.now in
    let seen = take (c.loop-k.k-index + 1) group in
    elim c.if-needs.branch [
      | then-needs w ↦ subst (IsFoundIn asks group seen) (sym w.found-is) (Contains-get_or group c.loop-k.k-index 0 c.loop-k-test.true, c.needs.ensures.0 w.if-needs.true)
      | else-needs w ↦ subst (IsFoundIn asks group seen) (sym w.found-is) (passed_over asks group c.loop-k.k-index c.loop-k.found c.loop-k-test.true (λ is. both_ways c.needs.result w.if-needs.false (c.needs.ensures.1 is)) c.loop-k.invariant)
    ]

pub returns : goal.returns
returns c =
    let asks = λ (k : ℕ). needed c.args.graph.spans.now c.args.tables.now (edge_at c.args.graph.edges.now k) ≡ c.args.ticks in
    subst (λ (l : List ℕ). IsFoundIn asks c.args.group.now l c.loop-k.found) (take_all c.loop-k.k-index c.args.group.now (omega arith)) c.loop-k.invariant

pub needs-requires-clause-known : goal.needs-requires-clause-known
needs-requires-clause-known c =
    from_low c.args.graph.exit c.args.graph.edges.now c.args.graph.spans.now c.requires.graph.ordered (get_or c.args.group.now c.loop-k.k-index 0)
    (c.requires.known c.loop-k.k-index 0 c.loop-k-test.true)
