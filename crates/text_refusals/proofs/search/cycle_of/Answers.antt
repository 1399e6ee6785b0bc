use Rattle.std.proofs.Common.{◌≢◌, ◌∙◌, sym, subst}
use Rattle.std.proofs.lemmas.List.{take_rest}
use Rattle.std.proofs.lemmas.Result.{IfOk-weaker}
use Rattle.control_flow.proofs.PlaceLemmas.{equal_places}
use Rattle.control_flow.specs.declared.edges.Edge.{Edge}
use Rattle.text_refusals.specs.Cycles.{IsCycleOf, IsOnceRound}
use Rattle.text_refusals.proofs.CycleLemmas.{closed_at}
use Rattle.text_refusals.proofs.SearchLemmas.{pairs_drop}
use Rattle.text_refusals.proofs.search.cycle_of.Goals as goal

pub returns-then-eq-clause-cycle : goal.returns-then-eq-clause-cycle
returns-then-eq-clause-cycle c =
    let k = c.loop-k.k in
    let path = c.args.path.now in
    IfOk-weaker c.from_slice.result _ _
    (λ cycle items flow loops closed.
    subst (IsCycleOf flow loops) (sym (items ∙ take_rest path k))
    (closed_at flow loops path c.args.end.now k c.index-path-k.result closed c.loop-k-test.true c.index-path-k.is (equal_places c.index-path-k.result.from c.args.end.now c.if-eq.ensures)))
    c.from_slice.ensures.items

pub returns-then-eq-clause-once : goal.returns-then-eq-clause-once
returns-then-eq-clause-once c =
    let k = c.loop-k.k in
    let path = c.args.path.now in
    IfOk-weaker c.from_slice.result _ _
    (λ cycle items once. subst IsOnceRound (sym (items ∙ take_rest path k)) (pairs_drop (λ (e f : Edge). e.from ≢ f.from) k path once))
    c.from_slice.ensures.items
