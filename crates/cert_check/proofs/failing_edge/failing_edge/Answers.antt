use Rattle.std.proofs.Common.{◌∙◌, List, ap, get_or, subst, sym}
use Rattle.std.proofs.lemmas.List.{get_or_default}
use Rattle.control_flow.specs.declared.edges.Edge.{Edge}
use Rattle.control_flow.proofs.Firsts.{no_edge}
use Rattle.cert_check.specs.Failing.{IsFirstWithout}
use Rattle.cert_check.specs.Weighing.{RowFits}
use Rattle.cert_check.proofs.FailingLemmas.{too_large}
use Rattle.cert_check.proofs.failing_edge.failing_edge.Goals as goal

pub returns-in-Some : goal.returns-in-Some
returns-in-Some c =
    let flow = c.args.indexed.graph.now in
    let tree = c.args.indexed.tree.now in
    let cert = c.args.cert.now in
    let edge = c.index-edges-number.result in
    let edge_is = c.index-edges-number.is ∙ ap (λ (xs : List Edge). get_or xs c.in-Some.number edge) c.edges.ensures.value ∙ get_or_default flow.edges c.in-Some.number edge no_edge c.in-Some.ensures.0 in
    too_large flow tree cert edge (subst (λ (e : Edge). IsFirstWithout (RowFits tree cert) flow.edges e) (sym edge_is) c.in-Some.ensures.1)
