-- Instances that cross.
use Rattle.std.proofs.Common.{◌≡◌, ℕ, true, false, List, refl, sym, ap, ◌∙◌, subst}
use Rattle.std.specs.Prelude.{Contains, not}
use Rattle.std.proofs.lemmas.Bool.{and_from, and_parts, false≢true, not-true}
use Rattle.control_flow.specs.declared.places.Place.{Place}
use Rattle.control_flow.specs.declared.places.Place.TheVariants.{At}
use Rattle.control_flow.specs.Flow.{Flow}
use Rattle.statement.specs.Stated.{StatedLoops}
use Rattle.statement.specs.declared.apart.ApartStretch.{ApartStretch}
use Rattle.statement.specs.declared.stated.Loop.{Loop}
use Rattle.loop_bounds.specs.declared.loop_instances.LoopInstance.{LoopInstance}
use Rattle.loop_bounds.specs.Extents.{found_instance}
use Rattle.loop_bounds.specs.Instance.{Instance, IsInstance, instance_of, is_member}
use Rattle.loop_bounds.specs.Nest.{HasCrossing, HasOwn}
use Rattle.loop_bounds.proofs.CrossFacts.{crossing_list}
use Rattle.text_refusals.specs.declared.crossings.Crossing.{Crossing}
use Rattle.text_refusals.specs.Crossings.{DoNotCross, CrossNone, CrossNoneAt, HasShared, IsCrossing, ShowsCrossing, is_own, is_shared}

module _ (flow : Flow) (apart : List ApartStretch) where
  -- what is found of two instances
  abbrev own_of : (i j : Instance) (p : Place) → Contains flow.places p → is_own i j p ≡ true → HasOwn flow i j
  own_of i j p has is = record {
    place = p;
    has = has;
    member = (and_parts (is_member i p) (not (is_member j p)) is).0;
    other = not-true (is_member j p) (and_parts (is_member i p) (not (is_member j p)) is).1;
  }

  pub shows : (one other : LoopInstance) (shared own others : Place) → Contains flow.places shared → is_shared (found_instance apart one) (found_instance apart other) shared ≡ true
      → Contains flow.places own → is_own (found_instance apart one) (found_instance apart other) own ≡ true → Contains flow.places others → is_own (found_instance apart other) (found_instance apart one) others ≡ true
      → ShowsCrossing flow apart one other (record { one = one; other = other; shared = shared; one_has = own; other_has = others })
  shows one other shared own others has is own_has own_is others_has others_is = record {
    one_is = refl;
    other_is = refl;
    shared = record {
      place = shared;
      has = has;
      in_one = (and_parts (is_member (found_instance apart one) shared) (is_member (found_instance apart other) shared) is).0;
      in_other = (and_parts (is_member (found_instance apart one) shared) (is_member (found_instance apart other) shared) is).1;
    };
    one_has = own_of (found_instance apart one) (found_instance apart other) own own_has own_is;
    other_has = own_of (found_instance apart other) (found_instance apart one) others others_has others_is;
    shared_is = refl;
    one_has_is = refl;
    other_has_is = refl;
  }

  -- what is not
  pub none_shared : (i j : Instance) → ((p : Place) → Contains flow.places p → is_shared i j p ≡ false) → HasShared flow i j → ⊥
  none_shared i j none h = false≢true (sym (none h.place h.has) ∙ and_from (is_member i h.place) (is_member j h.place) h.in_one h.in_other)

  pub none_own : (i j : Instance) → ((p : Place) → Contains flow.places p → is_own i j p ≡ false) → HasOwn flow i j → ⊥
  none_own i j none h = false≢true (sym (none h.place h.has) ∙ and_from (is_member i h.place) (not (is_member j h.place)) h.member (ap not h.other))

module _ (flow : Flow) (loops : StatedLoops) where
  pub instance_at : (l : Loop) (list : List ℕ) → Contains loops.list l → Contains flow.places (At list l.header) → IsInstance flow loops (instance_of loops.apart l list)
  instance_at l list stated reached = record { stated_loop = l; stated = stated; reached = reached; parts = refl }

  pub crossed : (one other : LoopInstance) (c : Crossing) → IsInstance flow loops (found_instance loops.apart one) → IsInstance flow loops (found_instance loops.apart other) → ShowsCrossing flow loops.apart one other c → IsCrossing flow loops c
  crossed one other c one_is other_is s = record {
    crossing = record {
      one = found_instance loops.apart one;
      other = found_instance loops.apart other;
      one_is = one_is;
      other_is = other_is;
      shared = (s.shared).place;
      has = (s.shared).has;
      in_one = (s.shared).in_one;
      in_other = (s.shared).in_other;
      one_has = s.one_has;
      other_has = s.other_has;
    };
    one_is = ap (found_instance loops.apart) (sym s.one_is);
    other_is = ap (found_instance loops.apart) (sym s.other_is);
    shared_is = s.shared_is;
    one_has_is = s.one_has_is;
    other_has_is = s.other_has_is;
  }

  -- none cross where those with each header cross none
  pub none_cross : ((list : List ℕ) (address : ℕ) → Contains flow.places (At list address) → CrossNoneAt flow loops list address) → HasCrossing flow loops → ⊥
  none_cross none c =
      let i = c.one_is in
      let j = c.other_is in
      let l : Loop = i.stated_loop in
      let m : Loop = j.stated_loop in
      let same : c.one.list ≡ c.other.list = crossing_list flow loops c in
      let header : l.header ≡ c.one.header = ap (λ (x : Instance). x.header) (sym i.parts) in
      let at : CrossNone flow loops c.one = subst (CrossNone flow loops) (sym i.parts) (none c.one.list c.one.header i.reached l i.stated header) in
      let head : c.other.header ≡ m.header = ap (λ (x : Instance). x.header) j.parts in
      let there : Contains flow.places (At c.one.list m.header) =
      subst (λ (ls : List ℕ). Contains flow.places (At ls m.header)) (sym same)
      (subst (λ (a : ℕ). Contains flow.places (At c.other.list a)) head j.reached) in
      let other : instance_of loops.apart m c.one.list ≡ c.other = ap (instance_of loops.apart m) same ∙ sym j.parts in
      let free : DoNotCross flow c.one c.other = subst (DoNotCross flow c.one) other (at m j.stated there) in
      free (record { place = c.shared; has = c.has; in_one = c.in_one; in_other = c.in_other }) c.one_has c.other_has
