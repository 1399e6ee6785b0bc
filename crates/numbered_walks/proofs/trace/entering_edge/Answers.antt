use Rattle.std.proofs.Common.{ℕ, true, ◌≡◌, ◌≢◌, get_or, length, All, Contains, Vec, ap, ◌∙◌, subst, arith, List}
use Rattle.std.specs.Global.{Global}
use Rattle.numbered_walks.specs.Index.{edge_at}
use Rattle.numbered_walks.specs.Tables.{found_at, needed}
use Rattle.numbered_walks.proofs.Grouping.{group_known}
use Rattle.numbered_walks.proofs.Tracing.{entering_is, only_enters, some_enters}
use Rattle.numbered_walks.proofs.trace.entering_edge.Goals as goal

pub attaining-requires-clause-known : goal.attaining-requires-clause-known
attaining-requires-clause-known c =
    group_known c.args.graph.edges.now true c.args.graph.index.now.entering.items c.args.number c.index-group.result.now (omega (arith, c.requires.graph.indexed.all_entering, c.requires.known)) c.requires.graph.indexed.entering
    c.deref-2.result.now (c.deref-2.ensures.value ∙ ap (λ v. v.items) c.index-group.ensures)

pub returns-then-len-eq1 : goal.returns-then-len-eq1
returns-then-len-eq1 c =
    let p = c.args.number in
    let k = c.index.result.now in
    let at : c.index-group.result.now.items ≡ (get_or c.args.graph.index.now.entering.items p c.index-group.result.now).items = ap (λ (v : Vec ℕ Global). v.items) c.index-group.ensures in
    let one : length c.index-group.result.now.items ≡ 1 = omega (arith, c.index-group.result.now.ok.0, c.len.ensures, c.if-len-eq1.true) in
    only_enters c.args.graph.exit c.args.graph.edges.now c.args.graph.spans.now c.args.tables.now c.requires.graph.ordered c.requires.found c.args.graph.index.now.entering.items p c.index-group.result.now k
    (omega (arith, c.requires.graph.indexed.all_entering, c.requires.known)) c.requires.graph.indexed.entering c.requires.later c.requires.known
    (subst (λ (l : List ℕ). length l ≡ 1) at one) (subst (λ (l : List ℕ). k ≡ get_or l 0 k) at c.index.ensures)

pub returns-in-Some : goal.returns-in-Some
returns-in-Some c =
    let p = c.args.number in
    let group = c.deref-2.result.now in
    let is_list : group ≡ (get_or c.args.graph.index.now.entering.items p c.index-group.result.now).items = c.deref-2.ensures.value ∙ ap (λ v. v.items) c.index-group.ensures in
    entering_is c.args.graph.exit c.args.graph.edges.now c.args.graph.spans.now c.args.tables.now c.requires.graph.ordered c.requires.found c.args.graph.index.now.entering.items p c.index-group.result.now
    (omega (arith, c.requires.graph.indexed.all_entering, c.requires.known)) c.requires.graph.indexed.entering c.in-Some.k (subst (λ (l : List ℕ). Contains l c.in-Some.k) is_list c.in-Some.ensures.0) (c.in-Some.ensures.1 ∙ c.found_at-ticks.ensures)

pub returns-in-None : goal.returns-in-None
returns-in-None c =
    let p = c.args.number in
    let group = c.deref-2.result.now in
    let is_list : group ≡ (get_or c.args.graph.index.now.entering.items p c.index-group.result.now).items = c.deref-2.ensures.value ∙ ap (λ v. v.items) c.index-group.ensures in
    let none : All (λ k. needed c.args.graph.spans.now c.args.tables.now (edge_at c.args.graph.edges.now k) ≢ c.found_at-ticks.result) group = c.in-None.ensures in
    absurd (some_enters c.args.graph.exit c.args.graph.edges.now c.args.graph.spans.now c.args.tables.now c.requires.graph.ordered c.requires.found c.args.graph.index.now.entering.items p c.index-group.result.now
    (omega (arith, c.requires.graph.indexed.all_entering, c.requires.known)) c.requires.graph.indexed.entering c.requires.later c.requires.known
    (subst (λ (l : List ℕ). All (λ k. needed c.args.graph.spans.now c.args.tables.now (edge_at c.args.graph.edges.now k) ≢ found_at c.args.graph.spans.now c.args.tables.now p) l) is_list
    (subst (λ (n : ℕ). All (λ k. needed c.args.graph.spans.now c.args.tables.now (edge_at c.args.graph.edges.now k) ≢ n) group) c.found_at-ticks.ensures none)))
