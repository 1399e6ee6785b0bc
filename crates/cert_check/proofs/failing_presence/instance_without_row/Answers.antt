use Rattle.std.proofs.Common.{◌∙◌, List, ap, map, subst, sym}
use Rattle.std.specs.List.Sorted.{IsSorted}
use Rattle.control_flow.specs.declared.places.Place.{Place}
use Rattle.control_flow.specs.Places.{place_cmp}
use Rattle.loop_bounds.proofs.Positions.{sorted}
use Rattle.longest_walk.specs.Rows.{header_of, header_of_row}
use Rattle.cert_check.proofs.FailingLemmas.{found_over}
use Rattle.cert_check.proofs.PresenceLemmas.{map_found}
use Rattle.cert_check.proofs.failing_presence.instance_without_row.Goals as goal

pub first_without-requires : goal.first_without-requires
first_without-requires c =
    let rows = map header_of_row c.args.cert.now.instances in
    let given = c.deref-2.ensures.value ∙ c.in_ok-rows.ensures ∙ ap (map header_of_row) c.items.ensures in
    record { ascending = subst (λ (ps : List Place). IsSorted place_cmp ps) (sym given) (sorted rows c.requires.ascending.instances) }

pub returns : goal.returns
returns c =
    let wanted = c.deref.ensures.value ∙ c.in_ok-instances.ensures ∙ map_found c.args.tree.now.apart c.instances.result.now ∙ ap (map header_of) c.instances.ensures in
    let given = c.deref-2.ensures.value ∙ c.in_ok-rows.ensures ∙ ap (map header_of_row) c.items.ensures in
    found_over c.first_without.result c.deref.result.now c.deref-2.result.now (map header_of c.args.tree.now.instances) (map header_of_row c.args.cert.now.instances) wanted given c.first_without.ensures
