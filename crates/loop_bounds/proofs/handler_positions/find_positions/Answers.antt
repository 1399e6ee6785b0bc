use Rattle.std.proofs.Common.{◌≡◌, ◌≤◌, List, length, map, ◌∙◌, subst, sym, inr, All}
use Rattle.std.specs.Prelude.{Contains, AllPairs, ◌≢◌}
use Rattle.control_flow.specs.declared.places.Place.{Place}
use Rattle.control_flow.specs.declared.places.Place.TheVariants.{At, Exit}
use Rattle.statement.specs.Stated.{IsLoop}
use Rattle.control_flow.specs.Places.{place_at}
use Rattle.loop_bounds.specs.declared.loop_instances.LoopInstance.{LoopInstance}
use Rattle.loop_bounds.specs.Instance.{Instance}
use Rattle.loop_bounds.specs.Keys.{AreByKey, IsListed}
use Rattle.loop_bounds.specs.Extents.{IsFoundAmong, found_instance}
use Rattle.loop_bounds.proofs.InPlaces.{by_key_once, found_reached, found_stated, headers_differ, instances_are, places_differ}
use Rattle.loop_bounds.proofs.Positions.{listed_from, listed_has}
use Rattle.loop_bounds.proofs.handler_positions.find_positions.Goals as goal

pub extents-requires-clause-listed : goal.extents-requires-clause-listed
extents-requires-clause-listed c = rw (c.apart-apart.ensures, c.deref.ensures.value) (by_key_once c.args.loops.now.apart c.args.graph.now c.args.listed.items c.places.ensures.well_formed c.requires.listed)

pub extents-requires-clause-stated : goal.extents-requires-clause-stated
extents-requires-clause-stated c =
    let are : (i : Instance) → Contains (map (found_instance c.args.loops.now.apart) c.in_ok-found.found.items) i → IsFoundAmong c.args.loops.now.apart c.args.graph.now.places c.args.sorted.now i = λ i has. subst (λ (xs : List Place). IsFoundAmong c.args.loops.now.apart xs c.args.sorted.now i) c.places.ensures.value ((c.in_ok-found.ensures.exact c.args.loops.now.apart i).0 has) in
    rw c.apart-apart.ensures
    (subst (λ (xs : List LoopInstance). All (λ (f : LoopInstance). IsLoop c.args.loops.now.apart f.stated) xs) (sym c.deref-2.ensures.value) (found_stated c.args.graph.now c.args.loops.now c.args.sorted.now c.in_ok-found.found.items c.requires.moved c.requires.stated are))

pub extents-requires-clause-reached : goal.extents-requires-clause-reached
extents-requires-clause-reached c =
    let are : (i : Instance) → Contains (map (found_instance c.args.loops.now.apart) c.in_ok-found.found.items) i → IsFoundAmong c.args.loops.now.apart c.args.graph.now.places c.args.sorted.now i = λ i has. subst (λ (xs : List Place). IsFoundAmong c.args.loops.now.apart xs c.args.sorted.now i) c.places.ensures.value ((c.in_ok-found.ensures.exact c.args.loops.now.apart i).0 has) in
    subst (λ (xs : List Place). All (λ (f : LoopInstance). Contains xs (At f.list f.stated.header)) c.deref-2.result.now) (sym c.deref.ensures.value)
    (subst (λ (xs : List LoopInstance). All (λ (f : LoopInstance). Contains c.args.listed.items (At f.list f.stated.header)) xs) (sym c.deref-2.ensures.value)
    (found_reached c.args.loops.now.apart c.args.graph.now c.args.sorted.now c.args.listed.items c.in_ok-found.found.items c.requires.listed.moved are))

pub number_edges-requires : goal.number_edges-requires
number_edges-requires c = rw c.apart-apart.ensures (subst (IsListed c.args.loops.now.apart c.args.graph.now.places) (sym c.deref-3.ensures.value) c.requires.listed)

pub position_of-entry-requires : goal.position_of-entry-requires
position_of-entry-requires c =
    let listed : IsListed c.args.loops.now.apart c.args.graph.now.places c.deref-4.result.now = subst (IsListed c.args.loops.now.apart c.args.graph.now.places) (sym c.deref-4.ensures.value) c.requires.listed in
    record {
      ordered = rw c.apart-apart.ensures listed.ascending;
      no_exit = λ has. c.places.ensures.well_formed.no_exit (listed_from c.args.graph.now.places c.deref-4.result.now listed.moved Exit has);
      known = inr (listed_has c.args.graph.now.places c.deref-4.result.now listed.moved c.entry.result (subst (Contains c.args.graph.now.places) (sym c.entry.ensures.value) c.places.ensures.well_formed.entry_in));
    }

pub returns : goal.returns
returns c =
    let are : (i : Instance) → Contains (map (found_instance c.args.loops.now.apart) c.in_ok-found.found.items) i → IsFoundAmong c.args.loops.now.apart c.args.graph.now.places c.args.sorted.now i = λ i has. subst (λ (xs : List Place). IsFoundAmong c.args.loops.now.apart xs c.args.sorted.now i) c.places.ensures.value ((c.in_ok-found.ensures.exact c.args.loops.now.apart i).0 has) in
    record {
      listed_is = c.requires.listed;
      found_are = λ i. (
        (λ has. (instances_are c.args.graph.now c.args.loops.now c.args.sorted.now c.requires.moved i).0 (are i has)),
        (λ f. (c.in_ok-found.ensures.exact c.args.loops.now.apart i).1 (subst (λ (xs : List Place). IsFoundAmong c.args.loops.now.apart xs c.args.sorted.now i) (sym c.places.ensures.value) ((instances_are c.args.graph.now c.args.loops.now c.args.sorted.now c.requires.moved i).1 f))),
      );
      bounded = found_stated c.args.graph.now c.args.loops.now c.args.sorted.now c.in_ok-found.found.items c.requires.moved c.requires.stated are;
      differ = c.in_ok-found.ensures.differ (headers_differ c.args.loops.now.list c.args.sorted.now c.requires.moved c.requires.apart) (subst (λ (xs : List Place). AllPairs (λ (p : Place) (q : Place). p ≢ q) xs) (sym c.places.ensures.value) (places_differ c.args.graph.now c.places.ensures.well_formed));
      extents_of = rw (c.apart-apart.ensures, c.deref.ensures.value, c.deref-2.ensures.value) at c.in_ok-extents.ensures.of;
      extents_are = c.in_ok-extents.ensures.ordered;
      numbered = rw c.deref-3.ensures.value at c.in_ok-edges.ensures;
      entry_is = subst (λ (xs : List Place). place_at xs c.position_of-entry.result ≡ c.args.graph.now.entry) c.deref-4.ensures.value (c.position_of-entry.ensures.number ∙ c.entry.ensures.value);
      entry_most = subst (λ (xs : List Place). c.position_of-entry.result ≤ length xs) c.deref-4.ensures.value c.position_of-entry.ensures.most;
    }
