use Rattle.std.proofs.Common.{ℕ, List, get_or, length, sym, ap, ◌∙◌, arith}
use Rattle.control_flow.specs.declared.places.Place.{Place}
use Rattle.loop_bounds.specs.Nest.{HasCrossingWith}
use Rattle.loop_bounds.proofs.CrossFacts.{apart_here, apart_more, crossing_at, seen_again}
use Rattle.loop_bounds.proofs.FindLemmas.{true_from_not}
use Rattle.loop_bounds.proofs.crossing.have_crossing.Goals.{in-At+then-ne+in_ok-cross_with+else-branch, in-At+else-ne, in_default}
use Rattle.loop_bounds.proofs.crossing.have_crossing.Goals as goal

pub loop-place-init : goal.loop-place-init
loop-place-init c = record { apart = λ k d list address lt. absurd (omega arith); seen = tt }

pub loop-place-preserved : goal.loop-place-preserved
loop-place-preserved c =
    let P : List ℕ → Type 0 = λ list. HasCrossingWith c.args.graph.now c.args.loops.now list → ⊥ in
    let more = apart_more P c.places-place-items.result.now c.loop-place.place-index c.place-item.result c.loop-place-test.true c.place-item.is c.loop-place.invariant.apart in
    elim c.match-place.branch [
      | in-At+then-ne+in_ok-cross_with+else-branch w ↦
          let here : P w.in-At.list = w.in_ok-cross_with.ensures.apart w.if-branch.false in
          record { apart = more (apart_here P c.place-item.result w.in-At.list w.in-At.field-1 w.in-At.is here); seen = rw w.previous-is here }
      | in-At+else-ne w ↦
          let here : P w.in-At.list = seen_again P c.loop-place.previous w.in-At.list c.loop-place.invariant.seen (true_from_not _ (sym w.if-ne.false ∙ w.ne.ensures)) in
          record { apart = more (apart_here P c.place-item.result w.in-At.list w.in-At.field-1 w.in-At.is here); seen = rw w.previous-is c.loop-place.invariant.seen }
      | in_default w ↦ record { apart = more (λ list address at. absurd (w.in_default.not-At list address at)); seen = rw w.previous-is c.loop-place.invariant.seen }
    ]

pub returns-clause-apart : goal.returns-clause-apart
returns-clause-apart c = λ _. crossing_at c.args.graph.now c.args.loops.now (λ k d list address lt at.
    c.loop-place.invariant.apart k d list address (omega (arith, ap length c.places-place-items.ensures.value)) (ap (λ (xs : List Place). get_or xs k d) c.places-place-items.ensures.value ∙ at))
