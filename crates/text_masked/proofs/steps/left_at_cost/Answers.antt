use Rattle.std.proofs.Common.{◌≡◌, ◌⊎◌, ℕ, true, subst}
use Rattle.std.specs.Prelude.{◌↔◌}
use Rattle.std.specs.BTreeSet.{contains}
use Rattle.std.specs.Ordering.{nat_cmp}
use Rattle.control_flow.specs.declared.edges.Edge.{Edge}
use Rattle.text_masked.specs.Steps.{costs_at}
use Rattle.text_masked.proofs.NoteLemmas.{are_left, more_noted}
use Rattle.text_masked.proofs.NoteLemmas.{both_ok}
use Rattle.text_masked.proofs.steps.left_at_cost.Goals as goal

pub loop-edge-preserved : goal.loop-edge-preserved
loop-edge-preserved c =
    more_noted (λ a e. costs_at c.args.ticks a e ≡ true) c.args.edges.now (contains nat_cmp c.loop-edge.left) (contains nat_cmp c.note.new.left) c.loop-edge.edge-index
    c.edge-item.result c.loop-edge-test.true c.loop-edge.invariant
    (subst
    (λ (e : Edge). (a : ℕ) → (contains nat_cmp c.note.new.left a ≡ true)
    ↔ ((contains nat_cmp c.loop-edge.left a ≡ true) ⊎ (costs_at c.args.ticks a e ≡ true)))
    c.edge-item.is c.in_ok-note.ensures)

pub returns : goal.returns
returns c =
    both_ok c.sorted.result _ _ _
    (λ named keys ascending. are_left c.args.edges.now c.args.ticks c.loop-edge.edge-index c.loop-edge.left named.items c.loop-edge-test.false c.loop-edge.invariant keys ascending)
    c.sorted.ensures.keys c.sorted.ensures.ascending
