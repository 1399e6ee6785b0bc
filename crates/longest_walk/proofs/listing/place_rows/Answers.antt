use Rattle.std.proofs.Common.{◌≡◌, ◌∙◌, ◌<◌, ◌≤◌, List, length, ap, refl, sym, subst, arith}
use Rattle.std.specs.Prelude.{Contains}
use Rattle.std.proofs.lemmas.List.{get_or_default}
use Rattle.control_flow.specs.declared.places.Place.{Place}
use Rattle.control_flow.specs.declared.places.Place.TheVariants.{Exit}
use Rattle.control_flow.specs.Places.{place_at}
use Rattle.numbered_walks.specs.Tables.{distance_of}
use Rattle.longest_walk.specs.Rows.{place_of_row}
use Rattle.longest_walk.specs.declared.rows.PlaceRow.{PlaceRow}
use Rattle.longest_walk.proofs.RowLemmas.{not_exit, number_read, place_row_at, place_rows_all, place_rows_more}
use Rattle.longest_walk.proofs.listing.place_rows.Goals as goal

pub loop-index-preserved-in_default : goal.loop-index-preserved-in_default
loop-index-preserved-in_default c =
    let none = subst (λ (ps : List Place). Contains ps Exit → ⊥) (sym c.places-places.ensures.value) c.places-places.ensures.well_formed.no_exit in
    absurd (not_exit c.places-places.result.now none c.loop-index.index _ c.loop-index-test.true _ refl c.in_default.not-At)

pub index-distance-requires : goal.index-distance-requires
index-distance-requires c =
    let flow = c.args.graph.now in
    let i = c.loop-index.index in
    let lt : i < length flow.places = subst (λ (ps : List Place). i < length ps) c.places-places.ensures.value c.loop-index-test.true in
    let at = number_read flow c.args.tree.now c.requires.tree c.in_ok-numbers.numbers.items c.in_ok-numbers.ensures i c.index.result.now lt c.index.ensures in
    omega (arith, at.0, c.requires.room.distances)

pub loop-index-preserved : goal.loop-index-preserved
loop-index-preserved c =
    let flow = c.args.graph.now in
    let tree = c.args.tree.now in
    let i = c.loop-index.index in
    let numbers = c.in_ok-numbers.numbers.items in
    let distances = c.args.tables.now.distances.items in
    let lt : i < length flow.places = subst (λ (ps : List Place). i < length ps) c.places-places.ensures.value c.loop-index-test.true in
    let at = number_read flow tree c.requires.tree numbers c.in_ok-numbers.ensures i c.index.result.now lt c.index.ensures in
    let inside : c.index.result.now < length distances = omega (arith, at.0, c.requires.room.distances) in
    let r : PlaceRow = record { list = c.in-At.list; address = c.in-At.address; distance = c.index-distance.result.now } in
    let place : place_of_row r ≡ place_at flow.places i =
    sym c.in-At.is ∙ get_or_default c.places-places.result.now i _ Exit c.loop-index-test.true ∙ ap (λ (ps : List Place). place_at ps i) c.places-places.ensures.value in
    let distance : r.distance ≡ distance_of c.args.tables.now c.index.result.now = c.index-distance.ensures ∙ get_or_default distances c.index.result.now c.index-distance.result.now 0 inside in
    rw c.in_ok-push.ensures.items
    (place_rows_more flow tree c.args.tables.now i c.loop-index.rows.items r lt c.loop-index.invariant place
    (place_row_at flow tree c.requires.tree c.args.tables.now numbers c.in_ok-numbers.ensures i c.index.result.now r lt c.index.ensures place distance))

pub returns : goal.returns
returns c =
    let flow = c.args.graph.now in
    let ended : length flow.places ≤ c.loop-index.index = subst (λ (ps : List Place). length ps ≤ c.loop-index.index) c.places-places.ensures.value c.loop-index-test.false in
    rw c.of.ensures (place_rows_all flow c.args.tree.now c.args.tables.now c.loop-index.index c.loop-index.rows.items ended c.loop-index.invariant)
