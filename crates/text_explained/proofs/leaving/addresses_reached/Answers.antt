use Rattle.std.proofs.Common.{◌≡◌, ◌∙◌, ◌⊎◌, ℕ, true, ap, subst}
use Rattle.std.specs.Prelude.{◌↔◌}
use Rattle.std.specs.BTreeSet.{contains}
use Rattle.std.specs.List.{list_any}
use Rattle.std.specs.Ordering.{nat_cmp}
use Rattle.control_flow.specs.declared.places.Place.{Place}
use Rattle.text_explained.specs.Taken.{is_at}
use Rattle.text_explained.proofs.AnyLaws.{answers_all, answers_more}
use Rattle.text_explained.proofs.leaving.addresses_reached.Goals as goal

pub loop-place-preserved : goal.loop-place-preserved
loop-place-preserved c =
    answers_more is_at c.places-place-items.result.now (contains nat_cmp c.loop-place.reached) (contains nat_cmp c.note_place.new.reached) c.loop-place.place-index
    c.place-item.result c.loop-place-test.true c.loop-place.invariant
    (subst
    (λ (p : Place). (a : ℕ) → (contains nat_cmp c.note_place.new.reached a ≡ true)
    ↔ ((contains nat_cmp c.loop-place.reached a ≡ true) ⊎ (is_at a p ≡ true)))
    c.place-item.is c.in_ok-note_place.ensures)

pub returns : goal.returns
returns c = λ a.
    answers_all is_at c.places-place-items.result.now (contains nat_cmp c.loop-place.reached) c.loop-place.place-index c.loop-place-test.false c.loop-place.invariant a
    ∙ ap (list_any (is_at a)) c.places-place-items.ensures.value
