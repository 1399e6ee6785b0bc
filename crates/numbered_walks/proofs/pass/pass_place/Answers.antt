use Rattle.std.proofs.Common.{ℕ, true, ◌≡◌, ◌<◌, ◌↔◌, get_or, Contains, sym, ap, ◌∙◌, subst, arith, List}
use Rattle.numbered_walks.specs.declared.span.NumberedEdge.{NumberedEdge}
use Rattle.numbered_walks.specs.Index.{edges_of}
use Rattle.numbered_walks.specs.Tables.{IsNotFit}
use Rattle.numbered_walks.proofs.Grouping.{entering_edges, group_known}
use Rattle.numbered_walks.proofs.PassLemmas.{place_step}
use Rattle.numbered_walks.proofs.Passing.{place_over}
use Rattle.numbered_walks.proofs.pass.pass_place.Goals as goal

pub heaviest-requires-clause-known : goal.heaviest-requires-clause-known
heaviest-requires-clause-known c =
    group_known c.args.graph.edges.now true c.args.graph.index.now.entering.items c.args.place c.index.result.now (omega (arith, c.requires.graph.indexed.all_entering, c.requires.known)) c.requires.graph.indexed.entering
    c.deref.result.now (c.deref.ensures.value ∙ ap (λ v. v.items) c.index.ensures)

pub returns-in-None-clause-no : goal.returns-in-None-clause-no
returns-in-None-clause-no c = λ closed counted passed _.
    let group = c.deref.result.now in
    let is_list : group ≡ (get_or c.args.graph.index.now.entering.items c.args.place c.index.result.now).items = c.deref.ensures.value ∙ ap (λ v. v.items) c.index.ensures in
    let over : IsNotFit c.args.graph.spans.now c.args.tables.now (edges_of c.args.graph.edges.now group) = c.in-None.ensures in
    let e = over.0 in
    let known = (entering_edges c.args.graph.edges.now c.args.graph.index.now.entering.items c.args.place c.index.result.now (omega (arith, c.requires.graph.indexed.all_entering, c.requires.known)) c.requires.graph.indexed.entering e).0
    (subst (λ (l : List ℕ). Contains (edges_of c.args.graph.edges.now l) e) is_list over.1) in
    place_over c.args.graph.exit c.args.graph.edges.now c.args.graph.spans.now closed c.args.place c.args.tables.now c.requires.graph.ordered passed counted e known.0 (omega (arith, known.1, known.2)) known.2 over.2

pub returns-in-Some-clause-yes : goal.returns-in-Some-clause-yes
returns-in-Some-clause-yes c = λ closed passed _.
    let group = c.deref.result.now in
    let is_list : group ≡ (get_or c.args.graph.index.now.entering.items c.args.place c.index.result.now).items = c.deref.ensures.value ∙ ap (λ v. v.items) c.index.ensures in
    place_step c.args.graph.exit c.args.graph.edges.now c.args.graph.spans.now closed c.args.place c.in-Some.value c.args.tables.now c.write_place.new.tables (edges_of c.args.graph.edges.now group)
    c.requires.entered c.requires.known
    (subst (λ (l : List ℕ). (e : NumberedEdge) → Contains (edges_of c.args.graph.edges.now l) e ↔ (Contains c.args.graph.edges.now e × (e.to ≡ c.args.place) × (e.from < c.args.place))) (sym is_list)
    (entering_edges c.args.graph.edges.now c.args.graph.index.now.entering.items c.args.place c.index.result.now (omega (arith, c.requires.graph.indexed.all_entering, c.requires.known)) c.requires.graph.indexed.entering))
    c.in-Some.ensures c.write_place.ensures.written passed
