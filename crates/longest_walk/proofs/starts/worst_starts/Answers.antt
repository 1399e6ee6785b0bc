use Rattle.std.proofs.Common.{◌≡◌, ◌<◌, ◌≤◌, ◌∷◌, [], List, length, take, ap, subst, arith}
use Rattle.std.proofs.lemmas.List.{take_more}
use Rattle.control_flow.specs.declared.places.Place.{Place}
use Rattle.control_flow.specs.declared.places.Place.TheVariants.{Exit}
use Rattle.control_flow.specs.Places.{place_at}
use Rattle.numbered_walks.specs.Ordered.{IsGreatest}
use Rattle.longest_walk.specs.Starts.{IsWorstStart}
use Rattle.longest_walk.proofs.CarryWalks.{greatest_at}
use Rattle.longest_walk.proofs.Opening.{AllZip-append}
use Rattle.longest_walk.proofs.RowLemmas.{number_read}
use Rattle.longest_walk.proofs.starts.worst_starts.Goals as goal

pub greatest_cost_to-requires-clause-known : goal.greatest_cost_to-requires-clause-known
greatest_cost_to-requires-clause-known c =
    let flow = c.args.graph.now in
    let i = c.loop-place.place in
    let exit_is : length c.places-exit.result.now ≡ length flow.places = ap (λ (ps : List Place). length ps) c.places-exit.ensures.value in
    let lt : i < length flow.places = omega (arith, c.loop-place-test.true, exit_is) in
    let at = number_read flow c.args.tree.now c.requires c.in_ok-numbers.numbers.items c.in_ok-numbers.ensures i c.index.result.now lt c.index.ensures in
    omega (arith, at.0, exit_is)

pub loop-place-preserved : goal.loop-place-preserved
loop-place-preserved c =
    let flow = c.args.graph.now in
    let tree = c.args.tree.now in
    let i = c.loop-place.place in
    let number = c.index.result.now in
    let ticks = c.greatest_cost_to.result in
    let exit_is : length c.places-exit.result.now ≡ length flow.places = ap (λ (ps : List Place). length ps) c.places-exit.ensures.value in
    let lt : i < length flow.places = omega (arith, c.loop-place-test.true, exit_is) in
    let at = number_read flow tree c.requires c.in_ok-numbers.numbers.items c.in_ok-numbers.ensures i number lt c.index.ensures in
    let known : number ≤ length flow.places = omega (arith, at.0) in
    let greatest : IsGreatest number tree.edges tree.spans ticks = rw (c.edges.ensures, c.spans.ensures) at c.greatest_cost_to.ensures in
    let here : IsWorstStart flow tree (place_at flow.places i) ticks =
    subst (λ (p : Place). IsWorstStart flow tree p ticks) at.1 (greatest_at flow tree c.places-exit.ensures.well_formed c.requires number ticks known greatest) in
    rw (c.in_ok-push.ensures.items, take_more flow.places i Exit lt)
    (AllZip-append (IsWorstStart flow tree) (take i flow.places) (place_at flow.places i ∷ []) c.loop-place.starts.items (ticks ∷ []) c.loop-place.invariant (here, tt))
