use Rattle.std.proofs.Common.{◌≡◌, ◌∙◌, ℕ, ◌++◌, List, Option, None, length, map, ap, subst}
use Rattle.control_flow.specs.declared.places.Place.{Place}
use Rattle.longest_walk.specs.Folded.{Opened, open_item}
use Rattle.longest_walk.specs.Ways.{IsWay, opened_rounds, opened_way, rounds_at}
use Rattle.longest_walk.specs.declared.folded.Item.{Item}
use Rattle.longest_walk.specs.declared.rounds.Rounds.{Rounds}
use Rattle.longest_walk.proofs.RoundLemmas.{walk_made}
use Rattle.longest_walk.proofs.WayLemmas.{way_known}
use Rattle.longest_walk.proofs.builder.fold_walk.Goals as goal

pub add_way-requires : goal.add_way-requires
add_way-requires c =
    rw (c.deref-3.ensures.value, c.deref-2.ensures.value)
    (record { known = way_known c.args.search.graph.now c.args.search.tree.now c.args.search.index.now c.args.search.tables.now c.requires (length c.in_ok-rounds.rounds.items) c.in_ok-rounds.ensures.rounds.whole None _ _ c.in_ok-way.way.items c.in_ok-way.ensures })

pub returns-clause-walk : goal.returns-clause-walk
returns-clause-walk c =
    let flow = c.args.search.graph.now in
    let tree = c.args.search.tree.now in
    let way = c.in_ok-way.way.items in
    let table = c.in_ok-rounds.rounds.items in
    let is_way : IsWay tree.edges tree.spans c.args.search.tables.now None 0 way (length flow.places) =
    subst (λ (ps : List Place). IsWay tree.edges tree.spans c.args.search.tables.now None 0 way (length ps)) c.places-exit.ensures.value c.in_ok-way.ensures in
    let first : map open_item c.add_rounds.new.walk.items ≡ opened_rounds (rounds_at table 0) =
    c.in_ok-add_rounds.ensures ∙ ap (λ (xs : List Item). map open_item xs ++ opened_rounds (rounds_at c.deref.result.now 0)) c.new-walk.ensures.items ∙ ap (λ (t : List (Option Rounds)). opened_rounds (rounds_at t 0)) c.deref.ensures.value in
    let made : map open_item c.add_way.new.walk.items ≡ opened_rounds (rounds_at table 0) ++ opened_way flow tree table way =
    c.in_ok-add_way.ensures ∙ ap (λ (os : List Opened). os ++ opened_way flow tree c.deref-2.result.now c.deref-3.result.now) first
    ∙ ap (λ (t : List (Option Rounds)). opened_rounds (rounds_at table 0) ++ opened_way flow tree t c.deref-3.result.now) c.deref-2.ensures.value
    ∙ ap (λ (ks : List ℕ). opened_rounds (rounds_at table 0) ++ opened_way flow tree table ks) c.deref-3.ensures.value in
    rw c.of.ensures (walk_made flow tree c.args.search.index.now c.args.search.tables.now c.requires table c.in_ok-rounds.ensures.rounds way c.add_way.new.walk.items is_way made)
