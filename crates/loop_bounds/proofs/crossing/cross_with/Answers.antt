use Rattle.std.proofs.Common.{◌≡◌, List, map, All, not, ap, subst, sym, ◌∙◌}
use Rattle.std.specs.Prelude.{Contains}
use Rattle.std.proofs.lemmas.List.Sorted.{IsPermutation-refl}
use Rattle.control_flow.specs.declared.places.Place.{Place}
use Rattle.control_flow.specs.declared.places.Place.TheVariants.{At}
use Rattle.statement.specs.Stated.{IsLoop}
use Rattle.loop_bounds.specs.declared.extents.Extent.{Extent}
use Rattle.loop_bounds.specs.declared.loop_instances.LoopInstance.{LoopInstance}
use Rattle.loop_bounds.specs.Instance.{Instance, IsInstance}
use Rattle.loop_bounds.specs.Extents.{AreExtentsOf, HaveCrossing, IsFoundAmong, found_instance}
use Rattle.loop_bounds.proofs.CrossFacts.{crossing, no_crossing, none_cross, some_apart}
use Rattle.loop_bounds.proofs.InPlaces.{by_key_once, found_reached, found_stated}
use Rattle.loop_bounds.proofs.crossing.cross_with.Goals as goal

pub extents-requires-clause-listed : goal.extents-requires-clause-listed
extents-requires-clause-listed c = rw c.apart.ensures (by_key_once c.args.loops.now.apart c.args.graph.now c.args.listed.now c.places.ensures.well_formed c.requires.listed)

pub extents-requires-clause-stated : goal.extents-requires-clause-stated
extents-requires-clause-stated c =
    let are : (i : Instance) → Contains (map (found_instance c.args.loops.now.apart) c.in_ok-found.found.items) i → IsFoundAmong c.args.loops.now.apart c.args.graph.now.places c.args.loops.now.list i = λ i has. subst (λ (xs : List Place). IsFoundAmong c.args.loops.now.apart xs c.args.loops.now.list i) c.places.ensures.value ((c.in_ok-found.ensures i).0 has).0 in
    rw c.apart.ensures
    (subst (λ (xs : List LoopInstance). All (λ (f : LoopInstance). IsLoop c.args.loops.now.apart f.stated) xs) (sym c.deref.ensures.value) (found_stated c.args.graph.now c.args.loops.now c.args.loops.now.list c.in_ok-found.found.items (IsPermutation-refl c.args.loops.now.list) c.requires.stated are))

pub extents-requires-clause-reached : goal.extents-requires-clause-reached
extents-requires-clause-reached c =
    let are : (i : Instance) → Contains (map (found_instance c.args.loops.now.apart) c.in_ok-found.found.items) i → IsFoundAmong c.args.loops.now.apart c.args.graph.now.places c.args.loops.now.list i = λ i has. subst (λ (xs : List Place). IsFoundAmong c.args.loops.now.apart xs c.args.loops.now.list i) c.places.ensures.value ((c.in_ok-found.ensures i).0 has).0 in
    subst (λ (xs : List LoopInstance). All (λ (f : LoopInstance). Contains c.args.listed.now (At f.list f.stated.header)) xs) (sym c.deref.ensures.value) (found_reached c.args.loops.now.apart c.args.graph.now c.args.loops.now.list c.args.listed.now c.in_ok-found.found.items c.requires.listed.moved are)

pub returns-clause-crossing : goal.returns-clause-crossing
returns-clause-crossing c = λ crossed.
    let are : (i : Instance) → Contains (map (found_instance c.args.loops.now.apart) c.in_ok-found.found.items) i → IsInstance c.args.graph.now c.args.loops.now i = λ i has. let f = subst (λ (xs : List Place). IsFoundAmong c.args.loops.now.apart xs c.args.loops.now.list i) c.places.ensures.value ((c.in_ok-found.ensures i).0 has).0 in record { stated_loop = f.stated_loop; stated = f.stated; reached = f.reached; parts = f.parts } in
    let of : AreExtentsOf c.args.loops.now.apart c.args.listed.now c.in_ok-found.found.items c.in_ok-extents.extents.items = rw (c.apart.ensures, c.deref.ensures.value) at c.in_ok-extents.ensures.of in
    let cross : HaveCrossing c.in_ok-extents.extents.items = rw c.deref-2.ensures.value at (none_cross c.deref-2.result.now c.in_ok-parents.parents c.in_ok-parents.ensures.nested (c.is_none.ensures ∙ ap not crossed)) in
    crossing c.args.graph.now c.args.loops.now c.args.listed.now c.in_ok-found.found.items c.in_ok-extents.extents.items c.places.ensures.well_formed c.requires.listed are of cross

pub returns-clause-apart : goal.returns-clause-apart
returns-clause-apart c = λ apart h.
    let are : (i : Instance) → Contains (map (found_instance c.args.loops.now.apart) c.in_ok-found.found.items) i → IsInstance c.args.graph.now c.args.loops.now i = λ i has. let f = subst (λ (xs : List Place). IsFoundAmong c.args.loops.now.apart xs c.args.loops.now.list i) c.places.ensures.value ((c.in_ok-found.ensures i).0 has).0 in record { stated_loop = f.stated_loop; stated = f.stated; reached = f.reached; parts = f.parts } in
    let from : (i : Instance) → IsInstance c.args.graph.now c.args.loops.now i → i.list ≡ c.args.list → Contains (map (found_instance c.args.loops.now.apart) c.in_ok-found.found.items) i = λ i f list. (c.in_ok-found.ensures i).1 (subst (λ (xs : List Place). IsFoundAmong c.args.loops.now.apart xs c.args.loops.now.list i) (sym c.places.ensures.value) (record { stated_loop = f.stated_loop; stated = f.stated; reached = f.reached; parts = f.parts }), list) in
    let of : AreExtentsOf c.args.loops.now.apart c.args.listed.now c.in_ok-found.found.items c.in_ok-extents.extents.items = rw (c.apart.ensures, c.deref.ensures.value) at c.in_ok-extents.ensures.of in
    let none : HaveCrossing c.in_ok-extents.extents.items → ⊥ = subst (λ (xs : List Extent). HaveCrossing xs → ⊥) c.deref-2.ensures.value (some_apart c.deref-2.result.now c.in_ok-parents.parents c.in_ok-parents.ensures.nested (c.is_none.ensures ∙ ap not apart)) in
    no_crossing c.args.graph.now c.args.loops.now c.args.listed.now c.in_ok-found.found.items c.in_ok-extents.extents.items c.places.ensures.well_formed c.requires.listed are of none h.crossing (from h.crossing.one h.crossing.one_is h.one_list) (from h.crossing.other h.crossing.other_is h.other_list)
