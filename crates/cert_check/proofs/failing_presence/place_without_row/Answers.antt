use Rattle.std.proofs.Common.{◌∙◌, List, ap, map, subst, sym}
use Rattle.std.specs.List.Sorted.{IsSorted}
use Rattle.control_flow.specs.declared.places.Place.{Place}
use Rattle.control_flow.specs.Places.{place_cmp}
use Rattle.loop_bounds.proofs.Positions.{sorted}
use Rattle.longest_walk.specs.Rows.{place_of_row}
use Rattle.cert_check.proofs.FailingLemmas.{found_over}
use Rattle.cert_check.proofs.failing_presence.place_without_row.Goals as goal

pub first_without-requires : goal.first_without-requires
first_without-requires c =
    let rows = map place_of_row c.args.cert.now.places in
    let given = c.deref.ensures.value ∙ c.in_ok-rows.ensures ∙ ap (map place_of_row) c.items.ensures in
    record { ascending = subst (λ (ps : List Place). IsSorted place_cmp ps) (sym given) (sorted rows c.requires.ascending.places) }

pub returns : goal.returns
returns c =
    let given = c.deref.ensures.value ∙ c.in_ok-rows.ensures ∙ ap (map place_of_row) c.items.ensures in
    found_over c.first_without.result c.places.result.now c.deref.result.now c.args.graph.now.places (map place_of_row c.args.cert.now.places) c.places.ensures.value given c.first_without.ensures
