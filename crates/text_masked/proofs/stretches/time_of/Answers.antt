use Rattle.std.proofs.Common.{◌≡◌, ◌∙◌, ◌+◌, Bool, List, length, Vec, ⊎_elim, inl, inr, refl, sym, ap, subst, arith}
use Rattle.std.specs.Global.{Global}
use Rattle.std.proofs.lemmas.Bool.{both_ways}
use Rattle.std.proofs.lemmas.Result.{IfOk-weaker}
use Rattle.numbered_walks.specs.declared.span.NumberedEdge.{NumberedEdge}
use Rattle.numbered_walks.specs.declared.span.Span.{Span}
use Rattle.numbered_walks.specs.Index.{AreHolders}
use Rattle.numbered_walks.specs.Ordered.{IsOrdered}
use Rattle.text_masked.specs.Held.{AreTurned, EntersTurned, GoesOnRound, IsCounted, TurnsUnheld, held_edges, turned_spans}
use Rattle.text_masked.proofs.OrderLemmas.{ordered, to_in}
use Rattle.text_masked.proofs.stretches.time_of.Goals as goal

pub find_turned-requires : goal.find_turned-requires
find_turned-requires c = λ k d lt. to_in c.args.graph.exit c.args.graph.edges.now c.args.graph.spans.now c.requires.graph.ordered c.args.marked.now c.requires.marked k d lt

pub enters_some_turned-requires : goal.enters_some_turned-requires
enters_some_turned-requires c = record {
  known = λ k d lt. omega (
    arith,
    to_in c.args.graph.exit c.args.graph.edges.now c.args.graph.spans.now c.requires.graph.ordered c.args.marked.now c.requires.marked k d lt,
    ap (λ (v : List (Vec Span Global)). length v) c.deref-4.ensures.value,
    c.requires.graph.indexed.all_held,
  );
}

pub returns-then-enters_some_turned : goal.returns-then-enters_some_turned
returns-then-enters_some_turned c =
    let g = c.args.graph in
    let held = c.in_ok-held.held.items in
    let turned = c.in_ok-turned.turned.items in
    let are_turned : AreTurned c.args.marked.now held (g.exit + 1) turned = subst (λ (v : List Bool). AreTurned c.args.marked.now v (g.exit + 1) turned) c.deref.ensures.value c.in_ok-turned.ensures in
    let holders : AreHolders g.spans.now c.deref-4.result.now = subst (λ (v : List (Vec Span Global)). AreHolders g.spans.now v) (sym c.deref-4.ensures.value) c.requires.graph.indexed.holders in
    let enters : EntersTurned c.args.marked.now turned g.spans.now =
    subst (λ (v : List Bool). EntersTurned c.args.marked.now v g.spans.now) c.deref-3.ensures.value ((c.enters_some_turned.ensures g.spans.now holders).0 c.if-enters_some_turned.true) in
    record { held = held; are_held = c.in_ok-held.ensures; turned = turned; are_turned = are_turned; found = inl (refl, inr enters) }

pub time_along-requires-clause-ordered : goal.time_along-requires-clause-ordered
time_along-requires-clause-ordered c =
    let g = c.args.graph in
    let marked = c.args.marked.now in
    let held = c.in_ok-held.held.items in
    let turned = c.in_ok-turned.turned.items in
    let are_turned : AreTurned marked held (g.exit + 1) turned = subst (λ (v : List Bool). AreTurned marked v (g.exit + 1) turned) c.deref.ensures.value c.in_ok-turned.ensures in
    let holders : AreHolders g.spans.now c.deref-4.result.now = subst (λ (v : List (Vec Span Global)). AreHolders g.spans.now v) (sym c.deref-4.ensures.value) c.requires.graph.indexed.holders in
    let none : GoesOnRound marked held turned g.spans.now → ⊥ = λ round. ⊎_elim
    (λ (unheld : TurnsUnheld marked held).
    both_ways c.turns_unheld.result c.if-turns_unheld.false (c.turns_unheld.ensures.1 (subst (λ (v : List Bool). TurnsUnheld marked v) (sym c.deref-2.ensures.value) unheld)))
    (λ (enters : EntersTurned marked turned g.spans.now).
    both_ways c.enters_some_turned.result c.if-enters_some_turned.false
    ((c.enters_some_turned.ensures g.spans.now holders).1 (subst (λ (v : List Bool). EntersTurned marked v g.spans.now) (sym c.deref-3.ensures.value) enters)))
    round in
    let edges_are : c.deref-7.result.now ≡ held_edges g.exit held marked = c.deref-7.ensures.value ∙ c.in_ok-edges.ensures ∙ ap (λ (v : List Bool). held_edges g.exit v marked) c.deref-5.ensures.value in
    let spans_are : c.deref-8.result.now ≡ turned_spans turned g.spans.now = c.deref-8.ensures.value ∙ c.in_ok-spans.ensures ∙ ap (λ (v : List Bool). turned_spans v g.spans.now) c.deref-6.ensures.value in
    let in_order : IsOrdered g.exit (held_edges g.exit held marked) (turned_spans turned g.spans.now) =
    ordered g.exit g.edges.now g.spans.now c.requires.graph.ordered marked c.requires.marked held c.in_ok-held.ensures turned are_turned none in
    subst (λ (es : List NumberedEdge). IsOrdered g.exit es c.deref-8.result.now) (sym edges_are) (subst (λ (ss : List Span). IsOrdered g.exit (held_edges g.exit held marked) ss) (sym spans_are) in_order)

pub returns : goal.returns
returns c =
    let g = c.args.graph in
    let marked = c.args.marked.now in
    let held = c.in_ok-held.held.items in
    let turned = c.in_ok-turned.turned.items in
    let are_turned : AreTurned marked held (g.exit + 1) turned = subst (λ (v : List Bool). AreTurned marked v (g.exit + 1) turned) c.deref.ensures.value c.in_ok-turned.ensures in
    let holders : AreHolders g.spans.now c.deref-4.result.now = subst (λ (v : List (Vec Span Global)). AreHolders g.spans.now v) (sym c.deref-4.ensures.value) c.requires.graph.indexed.holders in
    let none : GoesOnRound marked held turned g.spans.now → ⊥ = λ round. ⊎_elim
    (λ (unheld : TurnsUnheld marked held).
    both_ways c.turns_unheld.result c.if-turns_unheld.false (c.turns_unheld.ensures.1 (subst (λ (v : List Bool). TurnsUnheld marked v) (sym c.deref-2.ensures.value) unheld)))
    (λ (enters : EntersTurned marked turned g.spans.now).
    both_ways c.enters_some_turned.result c.if-enters_some_turned.false
    ((c.enters_some_turned.ensures g.spans.now holders).1 (subst (λ (v : List Bool). EntersTurned marked v g.spans.now) (sym c.deref-3.ensures.value) enters)))
    round in
    let edges_are : c.deref-7.result.now ≡ held_edges g.exit held marked = c.deref-7.ensures.value ∙ c.in_ok-edges.ensures ∙ ap (λ (v : List Bool). held_edges g.exit v marked) c.deref-5.ensures.value in
    let spans_are : c.deref-8.result.now ≡ turned_spans turned g.spans.now = c.deref-8.ensures.value ∙ c.in_ok-spans.ensures ∙ ap (λ (v : List Bool). turned_spans v g.spans.now) c.deref-6.ensures.value in
    IfOk-weaker c.time_along.result _ _
    (λ time is. record {
      held = held;
      are_held = c.in_ok-held.ensures;
      turned = turned;
      are_turned = are_turned;
      found = inr (none, subst (λ (ss : List Span). IsCounted g.exit (held_edges g.exit held marked) ss time) spans_are (subst (λ (es : List NumberedEdge). IsCounted g.exit es c.deref-8.result.now time) edges_are is));
    })
    c.time_along.ensures
