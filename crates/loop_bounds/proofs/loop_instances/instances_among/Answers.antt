use Rattle.statement.specs.declared.apart.ApartStretch.{ApartStretch}
use Rattle.std.proofs.Common.{List, [], map, subst, ap, ⊎_elim, inl, inr, arith, length}
use Rattle.std.specs.Prelude.{Contains}
use Rattle.std.proofs.lemmas.List.{take_all}
use Rattle.control_flow.specs.declared.places.Place.{Place}
use Rattle.loop_bounds.specs.declared.loop_instances.LoopInstance.{LoopInstance}
use Rattle.loop_bounds.specs.Instance.{Instance}
use Rattle.loop_bounds.specs.Extents.{IsFoundAmong, found_instance}
use Rattle.loop_bounds.proofs.FindLemmas.{among_more, among_none, apart_from}
use Rattle.loop_bounds.proofs.loop_instances.instances_among.Goals as goal

pub loop-place-init : goal.loop-place-init
loop-place-init c = record {
  exact = λ apart i. (
    (λ has. absurd (omega (arith, (subst (λ (xs : List LoopInstance). Contains (map (found_instance apart) xs) i) c.new-found.ensures.items has).1))),
    (λ f. absurd (among_none apart c.args.sorted.now i f)),
  );
  differ = λ headers places j k d less lt. absurd (omega (arith, ap length c.new-found.ensures.items));
}

pub loop-place-preserved : goal.loop-place-preserved
loop-place-preserved c = record {
  exact = λ apart i.
      let more = among_more apart c.args.places.now c.args.sorted.now c.loop-place.place-index c.place-item.result i c.loop-place-test.true c.place-item.is in
      let here = c.in_ok-add_instances.ensures.added apart i in (
        (λ has. more.1 (⊎_elim (λ old. inl ((c.loop-place.invariant.exact apart i).0 old)) (λ new. inr new) (here.0 has))),
        (λ f. here.1 (⊎_elim (λ old. inl ((c.loop-place.invariant.exact apart i).1 old)) (λ new. inr new) (more.0 f))),
      );
  differ = λ headers places.
      c.in_ok-add_instances.ensures.differ headers (c.loop-place.invariant.differ headers places)
      (apart_from [] c.args.places.now c.args.sorted.now c.loop-place.found.items c.loop-place.place-index c.place-item.result c.loop-place-test.true c.place-item.is (λ i has. (c.loop-place.invariant.exact [] i).0 has) places);
}

pub returns-clause-exact : goal.returns-clause-exact
returns-clause-exact c = subst (λ (xs : List Place). (apart : List ApartStretch) (i : Instance) → (Contains (map (found_instance apart) c.loop-place.found.items) i → IsFoundAmong apart xs c.args.sorted.now i) × (IsFoundAmong apart xs c.args.sorted.now i → Contains (map (found_instance apart) c.loop-place.found.items) i)) (take_all c.loop-place.place-index c.args.places.now c.loop-place-test.false) c.loop-place.invariant.exact
