use Rattle.std.proofs.Common.{◌≡◌, ◌<◌, ◌≤◌, ℕ, List, get_or, length, refl, sym, ◌∙◌, subst, arith}
use Rattle.control_flow.specs.declared.places.Place.{Place}
use Rattle.control_flow.specs.declared.places.Place.TheVariants.{At}
use Rattle.control_flow.proofs.PlaceLemmas.{same_at}
use Rattle.text_refusals.specs.Crossings.{CrossNoneAt}
use Rattle.text_refusals.proofs.CrossingLemmas.{none_cross}
use Rattle.text_refusals.proofs.EntryLemmas.{one_more}
use Rattle.text_refusals.proofs.crossings.loops_that_cross.Goals as goal
use Rattle.text_refusals.proofs.crossings.loops_that_cross.Goals.{in-At+in_default-crossing_at, in_default}

pub loop-place-preserved : goal.loop-place-preserved
loop-place-preserved c =
    let flow = c.args.graph.now in
    let loops = c.args.loops.now in
    let k = c.loop-place.place-index in
    let same = c.places-place-items.ensures.value in
    let is = subst (λ (ps : List Place). c.place-item.result ≡ get_or ps k c.place-item.result) same c.place-item.is in
    let lt = subst (λ (ps : List Place). k < length ps) same c.loop-place-test.true in
    let P : Place → Type 0 = λ p. (list : List ℕ) (address : ℕ) → p ≡ At list address → CrossNoneAt flow loops list address in
    elim c.match-place.branch [
      | in-At+in_default-crossing_at w ↦ one_more P flow.places k c.place-item.result lt
          (subst P is (λ list address at.
          let both = same_at w.in-At.list list w.in-At.address address (sym w.in-At.is ∙ at) in
          subst (λ (a : ℕ). CrossNoneAt flow loops list a) both.1
          (subst (λ (ls : List ℕ). CrossNoneAt flow loops ls w.in-At.address) both.0 w.in_default-crossing_at.ensures.none)))
          c.loop-place.invariant
      | in_default w ↦ one_more P flow.places k c.place-item.result lt (subst P is (λ list address at. absurd (w.in_default.not-At list address at))) c.loop-place.invariant
    ]

pub returns-clause-none : goal.returns-clause-none
returns-clause-none c =
    let flow = c.args.graph.now in
    let most = subst (λ (ps : List Place). length ps ≤ c.loop-place.place-index) c.places-place-items.ensures.value c.loop-place-test.false in
    none_cross flow c.args.loops.now (λ list address has. c.loop-place.invariant has.0 (At list address) (omega (arith, has.1, most)) has.2 list address refl)
