use Rattle.std.proofs.Common.{ℕ, ◌+◌, false, ◌≡◌, ◌≤◌, ◌↔◌, get_or, Contains, refl, sym, ap, ◌∙◌, subst, arith, List}
use Rattle.numbered_walks.specs.declared.span.NumberedEdge.{NumberedEdge}
use Rattle.numbered_walks.specs.Index.{edges_of, span_at}
use Rattle.numbered_walks.specs.Tables.{IsNotFit}
use Rattle.numbered_walks.proofs.Grouping.{group_known, turning_edges}
use Rattle.numbered_walks.proofs.PassLemmas.{close_step, close_zero, turn_low, span_in}
use Rattle.numbered_walks.proofs.Passing.{round_over}
use Rattle.numbered_walks.proofs.pass.pass_round.Goals as goal

pub write_round-requires : goal.write_round-requires
write_round-requires c =
    let shape = c.requires.graph.ordered.shape (span_at c.args.graph.spans.now c.args.closed) (span_in c.args.graph.spans.now c.args.closed c.requires.known) in
    record { room = omega (arith, shape.0, shape.1, c.requires.room.rounds) }

pub index-requires : goal.index-requires
index-requires c =
    let shape = c.requires.graph.ordered.shape (span_at c.args.graph.spans.now c.args.closed) (span_in c.args.graph.spans.now c.args.closed c.requires.known) in
    omega (arith, shape.0, shape.1, c.requires.graph.indexed.all_turning)

pub write_round-requires-in-Some : goal.write_round-requires-in-Some
write_round-requires-in-Some c =
    let shape = c.requires.graph.ordered.shape (span_at c.args.graph.spans.now c.args.closed) (span_in c.args.graph.spans.now c.args.closed c.requires.known) in
    record { room = omega (arith, shape.0, shape.1, c.requires.room.rounds) }

pub returns-then-span-eq0-clause-yes : goal.returns-then-span-eq0-clause-yes
returns-then-span-eq0-clause-yes c = λ _.
    close_zero c.args.graph.exit c.args.graph.edges.now c.args.graph.spans.now c.args.closed ((span_at c.args.graph.spans.now c.args.closed).last + 1) (span_at c.args.graph.spans.now c.args.closed) c.args.tables.now c.write_round.new.tables
    c.requires.graph.ordered c.requires.known refl refl c.if-span-eq0.true c.write_round.ensures.written c.requires.passed

pub heaviest-requires-clause-known : goal.heaviest-requires-clause-known
heaviest-requires-clause-known c =
    let i = span_at c.args.graph.spans.now c.args.closed in
    let shape = c.requires.graph.ordered.shape i (span_in c.args.graph.spans.now c.args.closed c.requires.known) in
    group_known c.args.graph.edges.now false c.args.graph.index.now.turning.items i.header c.index.result.now (omega (arith, c.requires.graph.indexed.all_turning, shape.0, shape.1)) c.requires.graph.indexed.turning
    c.deref.result.now (c.deref.ensures.value ∙ ap (λ v. v.items) c.index.ensures)

pub returns-in-None-clause-no : goal.returns-in-None-clause-no
returns-in-None-clause-no c = λ _.
    let i = span_at c.args.graph.spans.now c.args.closed in
    let i_in : Contains c.args.graph.spans.now i = span_in c.args.graph.spans.now c.args.closed c.requires.known in
    let shape = c.requires.graph.ordered.shape i i_in in
    let group = c.deref.result.now in
    let is_list : group ≡ (get_or c.args.graph.index.now.turning.items i.header c.index.result.now).items = c.deref.ensures.value ∙ ap (λ v. v.items) c.index.ensures in
    let over : IsNotFit c.args.graph.spans.now c.args.tables.now (edges_of c.args.graph.edges.now group) = c.in-None.ensures in
    let e = over.0 in
    let known = (turning_edges c.args.graph.edges.now c.args.graph.index.now.turning.items i.header c.index.result.now (omega (arith, c.requires.graph.indexed.all_turning, shape.0, shape.1)) c.requires.graph.indexed.turning e).0
    (subst (λ (l : List ℕ). Contains (edges_of c.args.graph.edges.now l) e) is_list over.1) in
    let low : e.from ≤ i.last = turn_low c.args.graph.exit c.args.graph.edges.now c.args.graph.spans.now i c.requires.graph.ordered i_in e known.0 known.1 (omega (arith, known.1, known.2)) in
    round_over c.args.graph.exit c.args.graph.edges.now c.args.graph.spans.now c.args.closed ((span_at c.args.graph.spans.now c.args.closed).last + 1) i c.args.tables.now c.requires.graph.ordered c.requires.passed c.requires.known refl e known.0 known.1 (omega arith) (omega (arith, c.if-span-eq0.false)) over.2

pub returns-in-Some-clause-yes : goal.returns-in-Some-clause-yes
returns-in-Some-clause-yes c = λ _.
    let i = span_at c.args.graph.spans.now c.args.closed in
    let shape = c.requires.graph.ordered.shape i (span_in c.args.graph.spans.now c.args.closed c.requires.known) in
    let group = c.deref.result.now in
    let is_list : group ≡ (get_or c.args.graph.index.now.turning.items i.header c.index.result.now).items = c.deref.ensures.value ∙ ap (λ v. v.items) c.index.ensures in
    close_step c.args.graph.exit c.args.graph.edges.now c.args.graph.spans.now c.args.closed ((span_at c.args.graph.spans.now c.args.closed).last + 1) c.in-Some.value i c.args.tables.now c.write_round-in-Some.new.tables (edges_of c.args.graph.edges.now group)
    c.requires.graph.ordered c.requires.known refl refl
    (subst (λ (l : List ℕ). (e : NumberedEdge) → Contains (edges_of c.args.graph.edges.now l) e ↔ (Contains c.args.graph.edges.now e × (e.to ≡ i.header) × (i.header ≤ e.from))) (sym is_list)
    (turning_edges c.args.graph.edges.now c.args.graph.index.now.turning.items i.header c.index.result.now (omega (arith, c.requires.graph.indexed.all_turning, shape.0, shape.1)) c.requires.graph.indexed.turning))
    c.in-Some.ensures (omega (arith, c.if-span-eq0.false)) c.write_round-in-Some.ensures.written c.requires.passed
