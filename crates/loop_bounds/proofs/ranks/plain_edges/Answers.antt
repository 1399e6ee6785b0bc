use Rattle.std.proofs.Common.{rules, refl, subst, List}
use Rattle.std.proofs.lemmas.Bool.{false≢true}
use Rattle.std.proofs.lemmas.List.{take_all}
use Rattle.std.proofs.lemmas.List.Sorted.{IsNonDecreasingBy-from_sort_by_key}
use Rattle.numbered_walks.specs.declared.span.NumberedEdge.{NumberedEdge}
use Rattle.loop_bounds.specs.Layout.{ArePlain}
use Rattle.loop_bounds.proofs.PlainLemmas.{plain_more_at, plain_same_at, plain_moved}
use Rattle.loop_bounds.proofs.ranks.plain_edges.Goals.{then-not-is_back+in_ok-push, else-not-is_back}
use Rattle.loop_bounds.proofs.ranks.plain_edges.Goals as goal

pub loop-edge-preserved : goal.loop-edge-preserved
loop-edge-preserved c = elim c.if-not-is_back.branch [
  | then-not-is_back+in_ok-push w ↦ rw (w.plain-is, w.in_ok-push.ensures.items) (plain_more_at c.args.extents.now c.args.edges.now c.loop-edge.plain.items c.loop-edge.edge-index c.loop-edge.invariant c.loop-edge-test.true (λ b. false≢true (w.if-not-is_back.ensures.1 b)))
  | else-not-is_back w ↦ rw w.plain-is (plain_same_at c.args.extents.now c.args.edges.now c.loop-edge.plain.items c.loop-edge.edge-index c.loop-edge.invariant c.loop-edge-test.true (w.if-not-is_back.ensures.0 refl))
]

pub returns-clause-plain : goal.returns-clause-plain
returns-clause-plain c =
    plain_moved c.args.extents.now c.args.edges.now c.loop-edge.plain.items c.sort_unstable_by_key.new.self.items
    (subst (λ (xs : List NumberedEdge). ArePlain c.args.extents.now xs c.loop-edge.plain.items) (take_all c.loop-edge.edge-index c.args.edges.now c.loop-edge-test.false) c.loop-edge.invariant)
    c.sort_unstable_by_key.ensures.permutation

pub returns-clause-ascending : goal.returns-clause-ascending
returns-clause-ascending c = IsNonDecreasingBy-from_sort_by_key (λ (e : NumberedEdge). e.from) _ c.sort_unstable_by_key.ensures.sorted (λ a r q k. search rules)
