use Rattle.std.proofs.Common.{◌≡◌, ◌⊎◌, ℕ, true, subst}
use Rattle.std.specs.Prelude.{◌↔◌}
use Rattle.std.specs.BTreeSet.{contains}
use Rattle.std.specs.Ordering.{nat_cmp}
use Rattle.control_flow.specs.declared.edges.Edge.{Edge}
use Rattle.text_explained.specs.Taken.{is_at}
use Rattle.text_masked.specs.Shown.{SetsMask}
use Rattle.text_masked.proofs.NoteLemmas.{are_setters, both_ok, more_noted}
use Rattle.text_masked.proofs.marked.setters.Goals as goal

pub loop-edge-preserved : goal.loop-edge-preserved
loop-edge-preserved c =
    more_noted (λ a e. (is_at a e.from ≡ true) × SetsMask c.args.image.now c.args.mask e) c.edges-edge-items.result.now (contains nat_cmp c.loop-edge.named) (contains nat_cmp c.note_setter.new.named) c.loop-edge.edge-index
    c.edge-item.result c.loop-edge-test.true c.loop-edge.invariant
    (subst
    (λ (e : Edge). (a : ℕ) → (contains nat_cmp c.note_setter.new.named a ≡ true)
    ↔ ((contains nat_cmp c.loop-edge.named a ≡ true) ⊎ ((is_at a e.from ≡ true) × SetsMask c.args.image.now c.args.mask e)))
    c.edge-item.is c.in_ok-note_setter.ensures)

pub returns : goal.returns
returns c =
    both_ok c.sorted.result _ _ _
    (λ named keys ascending. are_setters c.args.image.now c.args.mask c.args.graph.now c.edges-edge-items.result.now c.loop-edge.edge-index c.loop-edge.named named.items c.edges-edge-items.ensures.value c.loop-edge-test.false c.loop-edge.invariant keys ascending)
    c.sorted.ensures.keys c.sorted.ensures.ascending
