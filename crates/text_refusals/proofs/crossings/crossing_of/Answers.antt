use Rattle.std.proofs.Common.{ap, sym, ◌∙◌}
use Rattle.std.specs.Borrow.{Bor}
use Rattle.std.specs.Prelude.{option_map}
use Rattle.walks.proofs.RowLemmas.{find_some}
use Rattle.control_flow.specs.declared.places.Place.{Place}
use Rattle.loop_bounds.specs.Extents.{found_instance}
use Rattle.text_refusals.specs.Crossings.{is_own, is_shared}
use Rattle.text_refusals.proofs.CrossingLemmas.{none_own, none_shared, shows}
use Rattle.text_refusals.proofs.EntryLemmas.{find_none}
use Rattle.text_refusals.proofs.crossings.crossing_of.Goals as goal

pub returns-in_default-clause-none : goal.returns-in_default-clause-none
returns-in_default-clause-none c = λ shared own others.
    let flow = c.args.graph.now in
    let i = found_instance c.args.apart.now c.args.one.now in
    let j = found_instance c.args.apart.now c.args.other.now in
    none_shared flow c.args.apart.now i j (λ p has. find_none (is_shared i j) flow.places p (sym c.shared_place.ensures ∙ ap (option_map (λ (x : Bor Place). x.now)) c.in_default.is) has) shared

pub returns-in_default-own_place-clause-none : goal.returns-in_default-own_place-clause-none
returns-in_default-own_place-clause-none c = λ shared own others.
    let flow = c.args.graph.now in
    let i = found_instance c.args.apart.now c.args.one.now in
    let j = found_instance c.args.apart.now c.args.other.now in
    none_own flow c.args.apart.now i j (λ p has. find_none (is_own i j) flow.places p (sym c.own_place.ensures ∙ ap (option_map (λ (x : Bor Place). x.now)) c.in_default-own_place.is) has) own

pub returns-in_default-own_place-2-clause-none : goal.returns-in_default-own_place-2-clause-none
returns-in_default-own_place-2-clause-none c = λ shared own others.
    let flow = c.args.graph.now in
    let i = found_instance c.args.apart.now c.args.one.now in
    let j = found_instance c.args.apart.now c.args.other.now in
    none_own flow c.args.apart.now j i (λ p has. find_none (is_own j i) flow.places p (sym c.own_place-2.ensures ∙ ap (option_map (λ (x : Bor Place). x.now)) c.in_default-own_place-2.is) has) others

pub returns-clause-shows : goal.returns-clause-shows
returns-clause-shows c =
    let flow = c.args.graph.now in
    let i = found_instance c.args.apart.now c.args.one.now in
    let j = found_instance c.args.apart.now c.args.other.now in
    let shared = find_some (is_shared i j) flow.places c.in-Some.shared.now (sym c.shared_place.ensures ∙ ap (option_map (λ (x : Bor Place). x.now)) c.in-Some.is) in
    let own = find_some (is_own i j) flow.places c.in-Some-own_place.one_has.now (sym c.own_place.ensures ∙ ap (option_map (λ (x : Bor Place). x.now)) c.in-Some-own_place.is) in
    let others = find_some (is_own j i) flow.places c.in-Some-own_place-2.other_has.now (sym c.own_place-2.ensures ∙ ap (option_map (λ (x : Bor Place). x.now)) c.in-Some-own_place-2.is) in
    shows flow c.args.apart.now c.args.one.now c.args.other.now c.in-Some.shared.now c.in-Some-own_place.one_has.now c.in-Some-own_place-2.other_has.now shared.0 shared.1 own.0 own.1 others.0 others.1
