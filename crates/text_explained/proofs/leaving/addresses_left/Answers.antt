use Rattle.std.proofs.Common.{◌≡◌, ◌∙◌, ◌⊎◌, ℕ, true, ap, subst}
use Rattle.std.specs.Prelude.{◌↔◌}
use Rattle.std.specs.BTreeSet.{contains}
use Rattle.std.specs.List.{list_any}
use Rattle.std.specs.Ordering.{nat_cmp}
use Rattle.control_flow.specs.declared.edges.Edge.{Edge}
use Rattle.text_explained.specs.Leaving.{leaves_on}
use Rattle.text_explained.proofs.AnyLaws.{answers_all, answers_more}
use Rattle.text_explained.proofs.leaving.addresses_left.Goals as goal

pub loop-edge-preserved : goal.loop-edge-preserved
loop-edge-preserved c =
    answers_more (leaves_on c.args.kind) c.edges-edge-items.result.now (contains nat_cmp c.loop-edge.left) (contains nat_cmp c.note.new.left) c.loop-edge.edge-index
    c.edge-item.result c.loop-edge-test.true c.loop-edge.invariant
    (subst
    (λ (e : Edge). (a : ℕ) → (contains nat_cmp c.note.new.left a ≡ true)
    ↔ ((contains nat_cmp c.loop-edge.left a ≡ true) ⊎ (leaves_on c.args.kind a e ≡ true)))
    c.edge-item.is c.in_ok-note.ensures)

pub returns : goal.returns
returns c = λ a.
    answers_all (leaves_on c.args.kind) c.edges-edge-items.result.now (contains nat_cmp c.loop-edge.left) c.loop-edge.edge-index c.loop-edge-test.false c.loop-edge.invariant a
    ∙ ap (list_any (leaves_on c.args.kind a)) c.edges-edge-items.ensures.value
