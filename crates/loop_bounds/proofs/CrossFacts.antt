-- Crossing: instances of which each has an extent cross where the extents do.
use Rattle.std.proofs.Common.{◌≡◌, ℕ, ◌+◌, ◌<◌, ◌≤◌, Bool, true, false, eqb, leb, List, [], ◌∷◌, Option, Some, None, IfSome, Vec, Global, length, map, get_or, sym, refl, ap, ◌∙◌, subst, ⊎_elim, arith}
use Rattle.std.specs.Prelude.{Contains, MatchOption, ◌&&◌, ◌==◌}
use Rattle.std.specs.Cmp.Lexicographic.{pointwise}
use Rattle.std.specs.Option.{is_some, option_eq}
use Rattle.std.proofs.lemmas.Bool.{both_ways, cases_eq, and_parts, and_from, eqb-true, eq-eqb, false_from_ne_true, false≢true}
use Rattle.std.proofs.lemmas.List.{get_or_default, length-map, get_or-map}
use Rattle.std.proofs.lemmas.List.Elements.{Contains-get_or}
use Rattle.control_flow.specs.declared.places.Place.{Place}
use Rattle.control_flow.specs.declared.places.Place.TheVariants.{At}
use Rattle.statement.specs.Stated.{StatedLoops, lies_at}
use Rattle.control_flow.specs.Flow.{Flow, IsWellFormed}
use Rattle.control_flow.specs.Places.{place_at}
use Rattle.loop_bounds.specs.declared.extents.Extent.{Extent}
use Rattle.loop_bounds.specs.declared.loop_instances.LoopInstance.{LoopInstance}
use Rattle.loop_bounds.specs.Instance.{Instance, IsInstance, is_member}
use Rattle.loop_bounds.specs.Keys.{IsListed, key_of}
use Rattle.loop_bounds.specs.Extents.{AreExtentsOf, AreNested, HaveCrossing, IsWithin, extent_at, found_instance, is_within}
use Rattle.loop_bounds.specs.Nest.{HasCrossing, HasCrossingWith, HasOwn}
use Rattle.loop_bounds.specs.Tree.{ArePlaceNumbers}
use Rattle.loop_bounds.proofs.ExtentLemmas.{nested}
use Rattle.loop_bounds.proofs.ExtentOf.{member_by_key, no_found, same_list}
use Rattle.loop_bounds.proofs.InPlaces.{found_has}
use Rattle.loop_bounds.proofs.KeyLemmas.{all_lie_once, spans}
use Rattle.loop_bounds.proofs.Positions.{listed_length, place_numbers}
use Rattle.loop_bounds.proofs.Within.{from_in, in_from, out_from}

pub index_of : (extents : List Extent) (s : Extent) (has : Contains extents s) → extent_at extents has.0 ≡ s
index_of extents s has = get_or_default extents has.0 _ s has.1 ∙ has.2

module _ (flow : Flow) (loops : StatedLoops) (listed : List Place) (found : List LoopInstance) (extents : List Extent) (well_formed : IsWellFormed flow) (listed_is : IsListed loops.apart flow.places listed) (all_are : (i : Instance) → Contains (map (found_instance loops.apart) found) i → IsInstance flow loops i) (extents_of : AreExtentsOf loops.apart listed found extents) where
  abbrev instance_at : Extent → Instance
  instance_at s = found_instance loops.apart (get_or found s.instance no_found)

  abbrev exit : ℕ
  exit = length flow.places

  len : length listed ≡ exit
  len = listed_length flow.places listed listed_is.moved

  numbers : ArePlaceNumbers flow (place_at listed)
  numbers = place_numbers flow listed well_formed listed_is.moved

  instance_is : (s : Extent) → Contains extents s → IsInstance flow loops (instance_at s)
  instance_is s has = all_are (instance_at s) (found_has loops.apart found s.instance no_found (extents_of.named s has))

  extent_for : (i : Instance) → Contains (map (found_instance loops.apart) found) i → (s : Extent) × Contains extents s × (instance_at s ≡ i)
  extent_for i k =
      let k_lt : k.0 < length found = omega (arith, k.1, length-map found (found_instance loops.apart)) in
      let a = extents_of.all k.0 k_lt in
      (a.0, a.1, ap (λ (n : ℕ). found_instance loops.apart (get_or found n no_found)) a.2 ∙ sym (get_or-map (found_instance loops.apart) found k.0 no_found i k_lt) ∙ k.2)

  member : (s : Extent) → Contains extents s → (p : ℕ) → p ≤ exit → is_member (instance_at s) (place_at listed p) ≡ is_within s p
  member s has p le = (extents_of.are s no_found has).members p (omega (arith, len))

  within_exit : (s : Extent) → Contains extents s → s.end ≤ exit
  within_exit s has = omega (arith, (extents_of.are s no_found has).inside, len)

  own_place : (s t : Extent) → Contains extents s → Contains extents t → (p : ℕ) → IsWithin s p → (IsWithin t p → ⊥) → HasOwn flow (instance_at s) (instance_at t)
  own_place s t s_has t_has p inside outside =
      let end : s.end ≤ exit = within_exit s s_has in
      let high : p < s.end = inside.1 in
      record {
        place = place_at listed p;
        has = numbers.place p (omega arith);
        member = member s s_has p (omega arith) ∙ from_in s p inside;
        other = member t t_has p (omega arith) ∙ false_from_ne_true (is_within t p) (λ h. outside (in_from t p h));
      }

  pub crossing : HaveCrossing extents → HasCrossing flow loops
  crossing c =
      let s : Extent = extent_at extents c.one in
      let t : Extent = extent_at extents c.other in
      let s_has = Contains-get_or extents c.one _ c.one_in in
      let t_has = Contains-get_or extents c.other _ c.other_in in
      let x = c.cross in
      let end : s.end ≤ exit = within_exit s s_has in
      let high : x.shared < s.end = x.in_first.1 in
      record {
        one = instance_at s;
        other = instance_at t;
        one_is = instance_is s s_has;
        other_is = instance_is t t_has;
        shared = place_at listed x.shared;
        has = numbers.place x.shared (omega arith);
        in_one = member s s_has x.shared (omega arith) ∙ from_in s x.shared x.in_first;
        in_other = member t t_has x.shared (omega arith) ∙ from_in t x.shared x.in_second;
        one_has = own_place s t s_has t_has x.left x.left_in x.left_out;
        other_has = own_place t s t_has s_has x.right x.right_in x.right_out;
      }

  -- a member's position lies in the extent
  within : (i : Instance) (s : Extent) → Contains extents s → instance_at s ≡ i → (p : Place) (n : ℕ) → n ≤ exit → place_at listed n ≡ p → is_member i p ≡ is_within s n
  within i s has is p n le at = ap (is_member i) (sym at) ∙ ap (λ (j : Instance). is_member j (place_at listed n)) (sym is) ∙ member s has n le

  own_number : (i j : Instance) (s t : Extent) → Contains extents s → Contains extents t → instance_at s ≡ i → instance_at t ≡ j → HasOwn flow i j → (p : ℕ) × (is_within s p ≡ true) × (is_within t p ≡ false)
  own_number i j s t s_has t_has s_is t_is own =
      let n = numbers.number own.place own.has in
      let lt : n.0 < exit = n.1 in
      (n.0, sym (within i s s_has s_is own.place n.0 (omega arith) n.2) ∙ own.member, sym (within j t t_has t_is own.place n.0 (omega arith) n.2) ∙ own.other)

  -- two that are found do not cross where no extents do
  pub no_crossing : (HaveCrossing extents → ⊥) → (c : HasCrossing flow loops) → Contains (map (found_instance loops.apart) found) c.one → Contains (map (found_instance loops.apart) found) c.other → ⊥
  no_crossing none c one_found other_found =
      let s = extent_for c.one one_found in
      let t = extent_for c.other other_found in
      let n = numbers.number c.shared c.has in
      let lt : n.0 < exit = n.1 in
      let left = own_number c.one c.other s.0 t.0 s.1 t.1 s.2 t.2 c.one_has in
      let right = own_number c.other c.one t.0 s.0 t.1 s.1 t.2 s.2 c.other_has in
      none (record {
        one = (s.1).0;
        other = (t.1).0;
        one_in = (s.1).1;
        other_in = (t.1).1;
        cross = rw (index_of extents s.0 s.1, index_of extents t.0 t.1) (record {
          shared = n.0;
          in_first = in_from s.0 n.0 (sym (within c.one s.0 s.1 s.2 c.shared n.0 (omega arith) n.2) ∙ c.in_one);
          in_second = in_from t.0 n.0 (sym (within c.other t.0 t.1 t.2 c.shared n.0 (omega arith) n.2) ∙ c.in_other);
          left = left.0;
          left_in = in_from s.0 left.0 left.1;
          left_out = out_from t.0 left.0 left.2;
          right = right.0;
          right_in = in_from t.0 right.0 right.1;
          right_out = out_from s.0 right.0 right.2;
        });
      })

-- ## Instances that cross have one list of calls

-- instances of different lists that share a key: the members of the one are members of the other
lists_same : (f l g m : ℕ) (c d key other own : List ℕ) → spans f l c key ≡ true → spans g m d key ≡ true → spans f l c own ≡ true → spans g m d own ≡ false → spans g m d other ≡ true → spans f l c other ≡ false → c ≡ d
lists_same f l g m [] [] key other own a b p q r s = refl
lists_same f l g m [] (y ∷ d) [] other own a b p q r s = absurd (false≢true a)
lists_same f l g m [] (y ∷ d) (k ∷ key) [] own a b p q r s = absurd (false≢true r)
lists_same f l g m [] (y ∷ d) (k ∷ key) (x ∷ other) own a b p q r s =
    let k_is : k ≡ y = eqb-true k y (and_parts (eqb k y) (spans g m d key) b).0 in
    let x_is : x ≡ y = eqb-true x y (and_parts (eqb x y) (spans g m d other) r).0 in
    absurd (both_ways (leb f x && leb x l) s (subst (λ (z : ℕ). (leb f z && leb z l) ≡ true) (k_is ∙ sym x_is) a))
lists_same f l g m (x ∷ c) [] [] other own a b p q r s = absurd (false≢true b)
lists_same f l g m (x ∷ c) [] (k ∷ key) other [] a b p q r s = absurd (false≢true p)
lists_same f l g m (x ∷ c) [] (k ∷ key) other (w ∷ own) a b p q r s =
    let k_is : k ≡ x = eqb-true k x (and_parts (eqb k x) (spans f l c key) a).0 in
    let w_is : w ≡ x = eqb-true w x (and_parts (eqb w x) (spans f l c own) p).0 in
    absurd (both_ways (leb g w && leb w m) q (subst (λ (z : ℕ). (leb g z && leb z m) ≡ true) (k_is ∙ sym w_is) b))
lists_same f l g m (x ∷ c) (y ∷ d) [] other own a b p q r s = absurd (false≢true a)
lists_same f l g m (x ∷ c) (y ∷ d) (k ∷ key) [] own a b p q r s = absurd (false≢true r)
lists_same f l g m (x ∷ c) (y ∷ d) (k ∷ key) (z ∷ other) [] a b p q r s = absurd (false≢true p)
lists_same f l g m (x ∷ c) (y ∷ d) (k ∷ key) (z ∷ other) (w ∷ own) a b p q r s =
    let ka = and_parts (eqb k x) (spans f l c key) a in
    let kb = and_parts (eqb k y) (spans g m d key) b in
    let wp = and_parts (eqb w x) (spans f l c own) p in
    let zr = and_parts (eqb z y) (spans g m d other) r in
    let k_x : k ≡ x = eqb-true k x ka.0 in
    let k_y : k ≡ y = eqb-true k y kb.0 in
    let w_x : w ≡ x = eqb-true w x wp.0 in
    let z_y : z ≡ y = eqb-true z y zr.0 in
    let here : x ≡ y = sym k_x ∙ k_y in
    let own_out : spans g m d own ≡ false = false_from_ne_true (spans g m d own) (λ h. both_ways (eqb w y && spans g m d own) q (and_from _ _ (eq-eqb w y (w_x ∙ here)) h)) in
    let other_out : spans f l c other ≡ false = false_from_ne_true (spans f l c other) (λ h. both_ways (eqb z x && spans f l c other) s (and_from _ _ (eq-eqb z x (z_y ∙ sym here)) h)) in
    let rest = lists_same f l g m c d key other own ka.1 kb.1 wp.1 own_out zr.1 other_out in
    (λ i. here i ∷ rest i)

pub crossing_list : (flow : Flow) (loops : StatedLoops) (c : HasCrossing flow loops) → c.one.list ≡ c.other.list
crossing_list flow loops c =
    let i : Instance = c.one in
    let j : Instance = c.other in
    let lies : ℕ → ℕ = lies_at loops.apart in
    let by : (k : Instance) → IsInstance flow loops k → (p : Place) (b : Bool) → is_member k p ≡ b → spans (lies k.first) (lies k.last) (map lies k.list) (key_of loops.apart p) ≡ b =
    λ k is p b h. sym (member_by_key k loops.apart (ap (λ (x : Instance). x.apart) is.parts) p) ∙ h in
    all_lie_once loops.apart i.list j.list
    (lists_same (lies i.first) (lies i.last) (lies j.first) (lies j.last) (map lies i.list) (map lies j.list) (key_of loops.apart c.shared) (key_of loops.apart c.other_has.place) (key_of loops.apart c.one_has.place)
    (by i c.one_is c.shared true c.in_one) (by j c.other_is c.shared true c.in_other)
    (by i c.one_is c.one_has.place true c.one_has.member) (by j c.other_is c.one_has.place false c.one_has.other)
    (by j c.other_is c.other_has.place true c.other_has.member) (by i c.one_is c.other_has.place false c.other_has.other))

-- ## List by list

-- what holds of the list seen last holds of one that equals it
pub seen_again : (P : List ℕ → Type 0) (previous : Option (List ℕ)) (list : List ℕ) → IfSome previous P → option_eq (pointwise ◌==◌) previous (Some list) ≡ true → P list
seen_again P None list h same = absurd (false≢true same)
seen_again P (Some p) list h same = subst P (same_list p list same) h

-- a crossing is found with the list of calls of one of its headers
pub crossing_at : (flow : Flow) (loops : StatedLoops) → ((k : ℕ) (d : Place) (list : List ℕ) (address : ℕ) → k < length flow.places → get_or flow.places k d ≡ At list address → HasCrossingWith flow loops list → ⊥) → HasCrossing flow loops → ⊥
crossing_at flow loops none c =
    let has = (c.one_is).reached in
    none has.0 (At c.one.list c.one.header) c.one.list c.one.header has.1 has.2 (record { crossing = c; one_list = refl; other_list = sym (crossing_list flow loops c) })

pub apart_more : (P : List ℕ → Type 0) (places : List Place) (k : ℕ) (p : Place) → k < length places → p ≡ get_or places k p → ((j : ℕ) (d : Place) (list : List ℕ) (address : ℕ) → j < k → get_or places j d ≡ At list address → P list) → ((list : List ℕ) (address : ℕ) → p ≡ At list address → P list) → (j : ℕ) (d : Place) (list : List ℕ) (address : ℕ) → j < k + 1 → get_or places j d ≡ At list address → P list
apart_more P places k p lt is before here j d list address below at = ⊎_elim
    (λ (same : j ≡ k). here list address (is ∙ get_or_default places k p d lt ∙ ap (λ (n : ℕ). get_or places n d) (sym same) ∙ at))
    (λ (differ : j ≡ k → ⊥). before j d list address (omega arith) at)
    (cases_eq j k)

pub none_cross : (extents : List Extent) (found : Option (Vec (Option ℕ) Global)) → MatchOption found (HaveCrossing extents) (λ p. AreNested extents p.items) → is_some found ≡ false → HaveCrossing extents
none_cross extents None h none = h
none_cross extents (Some p) h none = cc

pub some_apart : (extents : List Extent) (found : Option (Vec (Option ℕ) Global)) → MatchOption found (HaveCrossing extents) (λ p. AreNested extents p.items) → is_some found ≡ true → HaveCrossing extents → ⊥
some_apart extents None h some = cc
some_apart extents (Some p) h some = nested extents p.items h

pub apart_here : (P : List ℕ → Type 0) (p : Place) (list : List ℕ) (address : ℕ) → p ≡ At list address → P list → (other : List ℕ) (a : ℕ) → p ≡ At other a → P other
apart_here P p list address is h other a at = let e : At list address ≡ At other a = sym is ∙ at in let same : list ≡ other = cc in subst P same h
