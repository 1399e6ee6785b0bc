-- Instances that have a place, and those that are one inside another.
use Rattle.std.proofs.Common.{◌≡◌, ◌≢◌, ◌<◌, ◌≤◌, ◌+◌, ◌&&◌, ◌++◌, ◌∷◌, [], ℕ, zero, suc, true, false, Bool, cond, not, nat_eq, List, length, get_or, map, take, drop, count_by, refl, sym, ap, ◌∙◌, subst, ⊎_elim, arith}
use Rattle.std.specs.Prelude.{All, AllPairs, Contains}
use Rattle.std.specs.List.Sorted.{IsNonDecreasingBy, IsPermutation}
use Rattle.std.proofs.lemmas.Bool.{and_parts, cases_Bool, cases_lt, cases_order, eqb-true, false≢true}
use Rattle.std.proofs.Math.Seq.{take-length}
use Rattle.std.proofs.lemmas.List.{get_or-map, get_or_default, length-append, length-map, take-append-le}
use Rattle.std.proofs.lemmas.List.Elements.{All-map, All-push, Contains-get_or, Contains-append_left, Contains-append_right}
use Rattle.std.proofs.lemmas.List.Quantifiers.{all_pairs_push}
use Rattle.std.proofs.lemmas.List.Sorted.{Contains-permutation, IsPermutation-map, IsPermutation-sym}
use Rattle.std.proofs.lemmas.List.Sums.{sum_by-cons}
use Rattle.control_flow.specs.declared.places.Place.{Place}
use Rattle.control_flow.specs.declared.places.Place.TheVariants.{At, Exit}
use Rattle.control_flow.specs.Flow.{Flow}
use Rattle.statement.specs.Stated.{StatedLoops}
use Rattle.statement.specs.declared.apart.ApartStretch.{ApartStretch}
use Rattle.statement.specs.declared.stated.Loop.{Loop}
use Rattle.loop_bounds.proofs.Moved.{IsOnce, once_moved}
use Rattle.loop_bounds.proofs.NestLemmas.{no_longer}
use Rattle.loop_bounds.specs.declared.loop_instances.LoopInstance.{LoopInstance}
use Rattle.loop_bounds.specs.Extents.{found_instance}
use Rattle.loop_bounds.specs.Instance.{Instance, IsInstance, holds, instance_of, is_member}
use Rattle.loop_bounds.specs.Nest.{HasCrossing, HasDeepPlace, HasOwn}
use Rattle.text_refusals.specs.Nested.{AreInstancesOf, AreNested, HasAllUpTo, HasAllWith, HasPlace, HavePlace, IsAround, IsDeep, KeepsAll, others}
use Rattle.text_refusals.specs.declared.nested.DeepPlace.{DeepPlace}

-- ## How many pass a test

abbrev one_if : Bool → ℕ
one_if b = cond b 1 0

count_cons : {X : Type 0} (p : X → Bool) (x : X) (xs : List X) → count_by p (x ∷ xs) ≡ one_if (p x) + count_by p xs
count_cons p x xs = sum_by-cons (λ y. cond (p y) 1 0) x xs

-- a test that passes wherever another does passes no less often
count_upto : {X : Type 0} (p r : X → Bool) (xs : List X) → ((x : X) → Contains xs x → r x ≡ true → p x ≡ true) → count_by r xs ≤ count_by p xs
count_upto p r [] le = omega arith
count_upto p r (x ∷ xs) le =
    let rest = count_upto p r xs (λ y has. le y (suc has.0, omega (arith, has.1), has.2)) in
    let here : one_if (r x) ≤ one_if (p x) = ⊎_elim
    (λ (t : r x ≡ true). rw (t, le x (0, omega arith, refl) t) (omega arith))
    (λ (f : r x ≡ false). rw f (omega arith))
    (cases_Bool (r x)) in
    omega (arith, count_cons p x xs, count_cons r x xs, rest, here)

-- and more often, where it passes once more
pub count_below : {X : Type 0} (p r : X → Bool) (xs : List X) → ((x : X) → Contains xs x → r x ≡ true → p x ≡ true) → (x : X) → Contains xs x → p x ≡ true → r x ≡ false → count_by r xs < count_by p xs
count_below p r [] le x has t f = absurd (omega (arith, has.1))
count_below p r (y ∷ xs) le x (zero, lt, is) t f =
    let rest = count_upto p r xs (λ z has. le z (suc has.0, omega (arith, has.1), has.2)) in
    let more : one_if (p y) ≡ 1 = ap one_if (ap p is ∙ t) in
    let none : one_if (r y) ≡ 0 = ap one_if (ap r is ∙ f) in
    omega (arith, count_cons p y xs, count_cons r y xs, rest, more, none)
count_below p r (y ∷ xs) le x (suc k, lt, is) t f =
    let rest = count_below p r xs (λ z has. le z (suc has.0, omega (arith, has.1), has.2)) x (k, omega (arith, lt), is) t f in
    let here : one_if (r y) ≤ one_if (p y) = ⊎_elim
    (λ (u : r y ≡ true). rw (u, le y (0, omega arith, refl) u) (omega arith))
    (λ (g : r y ≡ false). rw g (omega arith))
    (cases_Bool (r y)) in
    omega (arith, count_cons p y xs, count_cons r y xs, rest, here)

-- ## The calls of an instance

front_alone : (apart : List ApartStretch) (first last x : ℕ) (list : List ℕ) (a : ℕ) → (nat_eq a x && holds apart first last list []) ≡ true → ⊥
front_alone apart first last x [] a h = false≢true (and_parts (nat_eq a x) false h).1
front_alone apart first last x (y ∷ list) a h = false≢true (and_parts (nat_eq a x) false h).1

-- the calls of a member begin with those of the instance
pub front_of : (apart : List ApartStretch) (first last : ℕ) (list calls : List ℕ) (a : ℕ) → holds apart first last list (calls ++ a ∷ []) ≡ true → (length list ≤ length calls) × (take (length list) calls ≡ list)
front_of apart first last [] calls a h = (omega arith, refl)
front_of apart first last (x ∷ list) [] a h = absurd (front_alone apart first last x list a h)
front_of apart first last (x ∷ list) (c ∷ calls) a h =
    let parts = and_parts (nat_eq c x) (holds apart first last list (calls ++ a ∷ [])) h in
    let rest = front_of apart first last list calls a parts.1 in
    (omega (arith, rest.0), λ i. (eqb-true c x parts.0 i) ∷ rest.1 i)

-- ## Instances by their parts

pub same_parts : (f g : LoopInstance) → f.list ≡ g.list → f.stated ≡ g.stated → f ≡ g
same_parts f g list stated = λ i. record { list = list i; stated = stated i }

-- two that are one instance
pub one_found : (apart : List ApartStretch) (f g : LoopInstance) → found_instance apart f ≡ found_instance apart g → f ≡ g
one_found apart f g same = λ i. record {
  list = (same i).list;
  stated = record { header = (same i).header; first = (same i).first; last = (same i).last; bound = (same i).bound };
}

-- none of these is that one
pub none_is : (found : List LoopInstance) (f : LoopInstance) → ((k : ℕ) (d : LoopInstance) → k < length found → get_or found k d ≡ f → ⊥) → Contains found f → ⊥
none_is found f none has = none has.0 f has.1 has.2

contains_map : {X Y : Type 0} (f : X → Y) (xs : List X) (x : X) → Contains xs x → Contains (map f xs) (f x)
contains_map f xs x has = (has.0, omega (arith, has.1, length-map xs f), get_or-map f xs has.0 x (f x) has.1 ∙ ap f has.2)

pub pushed_keeps : (found : List LoopInstance) (f : LoopInstance) → KeepsAll found (found ++ f ∷ [])
pushed_keeps found f g has = Contains-append_left found (f ∷ []) g has

pub pushed_has : (found : List LoopInstance) (f : LoopInstance) → Contains (found ++ f ∷ []) f
pushed_has found f = Contains-append_right found (f ∷ []) f (0, omega arith, refl)

-- what a slice that was lent from a list comes back as
pub written_back : (new old : List LoopInstance) (n : ℕ) → n ≡ length new → take n (new ++ drop (length new) old) ≡ new
written_back new old n is = take-append-le n new (drop (length new) old) (omega (arith, is)) ∙ ap (λ (m : ℕ). take m new) is ∙ take-length new

-- ## Different instances in another order

differ_moved : (is js : List Instance) → IsPermutation is js → AllPairs (λ i j. i ≢ j) is → AllPairs (λ i j. i ≢ j) js
differ_moved is js moved differ =
    let once : IsOnce is = λ i j d within inside e. ⊎_elim
    (λ same. same)
    (λ apart. ⊎_elim (λ lt. absurd (differ i j d lt inside e)) (λ gt. absurd (differ j i d gt within (sym e))) apart)
    (cases_order i j) in
    let moved_once = once_moved is js moved once in
    λ i j d before inside e. let same = moved_once i j d (omega (arith, before, inside)) inside e in omega (arith, before, same)

all_moved : {X : Type 0} (P : X → Type 0) (xs ys : List X) → IsPermutation xs ys → ((x : X) → Contains xs x → P x) → All P ys
all_moved P xs ys moved each k d lt = each (get_or ys k d) (Contains-permutation ys xs (get_or ys k d) (IsPermutation-sym xs ys moved) (Contains-get_or ys k d lt))

each_of : {X : Type 0} (P : X → Type 0) (xs : List X) → All P xs → (x : X) → Contains xs x → P x
each_of P xs all x has = subst P has.2 (all has.0 x has.1)

module _ (flow : Flow) (loops : StatedLoops) (p : Place) where
  abbrev found_of : LoopInstance → Instance
  found_of = found_instance loops.apart

  -- the same instances in another order
  moved_instances : (is js : List Instance) → IsPermutation is js → AreInstancesOf flow loops p is → AreInstancesOf flow loops p js
  moved_instances is js moved all = record {
    each = all_moved (IsInstance flow loops) is js moved (each_of (IsInstance flow loops) is all.each);
    members = all_moved (λ (i : Instance). is_member i p ≡ true) is js moved (each_of (λ (i : Instance). is_member i p ≡ true) is all.members);
    all = λ i instance has. Contains-permutation is js i moved (all.all i instance has);
    differ = differ_moved is js moved all.differ;
  }

  -- ## One instance more

  pub one_more : (found : List LoopInstance) (f : LoopInstance) → HavePlace flow loops p found → Contains loops.list f.stated → HasPlace flow p (found_of f)
      → (Contains found f → ⊥) → HavePlace flow loops p (found ++ f ∷ [])
  one_more found f have stated has new = record {
    each = All-push (λ g. HasPlace flow p (found_of g)) found f have.each has;
    stated = All-push (λ (g : LoopInstance). Contains loops.list g.stated) found f have.stated stated;
    differ = all_pairs_push (λ g h. g ≢ h) found f have.differ (λ k d lt same. new (k, lt, get_or_default found k f d lt ∙ same));
  }

  pub none_yet : (found : List LoopInstance) → found ≡ [] → HavePlace flow loops p found
  none_yet found empty = subst (HavePlace flow loops p) (sym empty) (record {
    each = λ k d lt. absurd (omega (arith, lt));
    stated = λ k d lt. absurd (omega (arith, lt));
    differ = λ i j d before inside. absurd (omega (arith, inside));
  })

  whole_list : (list : List ℕ) (new : List LoopInstance) (n : ℕ) → n ≡ length list → HasAllWith flow loops p list new → HasAllWith flow loops p (take n list) new
  whole_list list new n is all = subst (λ (t : List ℕ). HasAllWith flow loops p t new) (sym (ap (λ (m : ℕ). take m list) is ∙ take-length list)) all

  pub up_to_none : (list : List ℕ) (new : List LoopInstance) → list ≡ [] → HasAllWith flow loops p list new → HasAllUpTo flow loops p list new
  up_to_none list new empty all n le =
      let len : length list ≡ 0 = ap length empty in
      whole_list list new n (omega (arith, len, le)) all

  pub up_to_next : (shorter list : List ℕ) (x : ℕ) (mid new : List LoopInstance) → list ≡ shorter ++ x ∷ [] → HasAllUpTo flow loops p shorter mid → KeepsAll mid new → HasAllWith flow loops p list new → HasAllUpTo flow loops p list new
  up_to_next shorter list x mid new parts before kept all n le =
      let len : length list ≡ length shorter + 1 = ap length parts ∙ length-append shorter (x ∷ []) in
      ⊎_elim
      (λ (low : n < length shorter + 1).
      let few : n ≤ length shorter = omega (arith, low) in
      let same : take n list ≡ take n shorter = ap (take n) parts ∙ take-append-le n shorter (x ∷ []) few in
      subst (λ (t : List ℕ). HasAllWith flow loops p t new) (sym same) (λ l stated has. kept (record { list = take n shorter; stated = l }) (before n few l stated has)))
      (λ (high : length shorter + 1 ≤ n). whole_list list new n (omega (arith, len, le, high)) all)
      (cases_lt n (length shorter + 1))

  -- all of them, where those with each front of the calls are there
  pub all_instances : (list : List ℕ) (a : ℕ) (found : List LoopInstance) → p ≡ At list a → HavePlace flow loops p found → HasAllUpTo flow loops p list found → AreInstancesOf flow loops p (map found_of found)
  all_instances list a found at have all = record {
    each = All-map (IsInstance flow loops) found_of found
        (λ k d lt. record { stated_loop = (get_or found k d).stated; stated = have.stated k d lt; reached = (have.each k d lt).reached; parts = refl });
    members = All-map (λ i. is_member i p ≡ true) found_of found (λ k d lt. (have.each k d lt).member);
    all = λ i is has.
        let front = front_of i.apart i.first i.last i.list list a (subst (λ (q : Place). is_member i q ≡ true) at has) in
        let here : HasPlace flow p (instance_of loops.apart is.stated_loop i.list) = subst (HasPlace flow p) is.parts (record { member = has; reached = is.reached }) in
        let with_list : HasAllWith flow loops p i.list found = subst (λ (l : List ℕ). HasAllWith flow loops p l found) front.1 (all (length i.list) front.0) in
        subst (Contains (map found_of found)) (sym is.parts) (contains_map found_of found (record { list = i.list; stated = is.stated_loop }) (with_list is.stated_loop is.stated here));
    differ = λ i j d before inside.
        let none : Loop = record { header = 0; first = 0; last = 0; bound = 0 } in
        let e : LoopInstance = record { list = []; stated = none } in
        let lt : j < length found = omega (arith, inside, length-map found found_of) in
        let first : i < length found = omega (arith, before, lt) in
        subst (λ (x : Instance). x ≢ get_or (map found_of found) j d) (sym (get_or-map found_of found i e d first))
        (subst (λ (x : Instance). found_of (get_or found i e) ≢ x) (sym (get_or-map found_of found j e d lt)) (λ same. have.differ i j e before lt (one_found loops.apart (get_or found i e) (get_or found j e) same)));
  }

  -- Exit has none
  pub none_of_exit : p ≡ Exit → AreInstancesOf flow loops p []
  none_of_exit at = record {
    each = λ k d lt. absurd (omega (arith, lt));
    members = λ k d lt. absurd (omega (arith, lt));
    all = λ i is has. absurd (false≢true (ap (is_member i) (sym at) ∙ has));
    differ = λ i j d before inside. absurd (omega (arith, inside));
  }

  -- ## Nesting

  -- of two instances that have the place, one is around the other, where it has no fewer members and no loops cross
  around : (i j : Instance) → Contains flow.places p → IsInstance flow loops i → IsInstance flow loops j → is_member i p ≡ true → is_member j p ≡ true → others flow i ≤ others flow j → (HasCrossing flow loops → ⊥) → IsAround flow i j
  around i j has i_is j_is in_i in_j fewer none q q_has q_in = ⊎_elim
      (λ (t : is_member i q ≡ true). t)
      (λ (f : is_member i q ≡ false).
      let other_has : HasOwn flow j i = record { place = q; has = q_has; member = q_in; other = f } in
      let within : (x : Place) → Contains flow.places x → not (is_member j x) ≡ true → not (is_member i x) ≡ true =
      λ x x_has out. ⊎_elim
      (λ (t : is_member i x ≡ true). ⊎_elim
      (λ (u : is_member j x ≡ true). absurd (false≢true (sym (ap not u) ∙ out)))
      (λ (u : is_member j x ≡ false). absurd (none (record { one = i; other = j; one_is = i_is; other_is = j_is; shared = p; has = has; in_one = in_i; in_other = in_j; one_has = record { place = x; has = x_has; member = t; other = u }; other_has = other_has })))
      (cases_Bool (is_member j x)))
      (λ (u : is_member i x ≡ false). ap not u)
      (cases_Bool (is_member i x)) in
      let less : others flow j < others flow i = count_below (λ x. not (is_member i x)) (λ x. not (is_member j x)) flow.places within q q_has (ap not f) (ap not q_in) in
      absurd (omega (arith, less, fewer)))
      (cases_Bool (is_member i q))

  nested : (found : List LoopInstance) → Contains flow.places p → AreInstancesOf flow loops p (map found_of found) → IsNonDecreasingBy (λ f. others flow (found_of f)) found → (HasCrossing flow loops → ⊥) → AreNested flow (map found_of found)
  nested found has all ordered none i j d before inside =
      let empty : Loop = record { header = 0; first = 0; last = 0; bound = 0 } in
      let e : LoopInstance = record { list = []; stated = empty } in
      let lt : j < length found = omega (arith, inside, length-map found found_of) in
      let first : i < length found = omega (arith, before, lt) in
      let within : i < length (map found_of found) = omega (arith, before, inside) in
      let fewer : others flow (found_of (get_or found i e)) ≤ others flow (found_of (get_or found j e)) = ordered i j e (omega (arith, before)) lt in
      let fewer_is : others flow (get_or (map found_of found) i d) ≤ others flow (get_or (map found_of found) j d) =
      subst (λ (x : Instance). others flow x ≤ others flow (get_or (map found_of found) j d)) (sym (get_or-map found_of found i e d first))
      (subst (λ (x : Instance). others flow (found_of (get_or found i e)) ≤ others flow x) (sym (get_or-map found_of found j e d lt)) fewer) in
      around (get_or (map found_of found) i d) (get_or (map found_of found) j d) has (all.each i d within) (all.each j d inside) (all.members i d within) (all.members j d inside) fewer_is none

  pub is_deep : (found moved : List LoopInstance) (d : DeepPlace) → d.place ≡ p → d.instances.items ≡ moved → Contains flow.places p → 16 < length found → IsPermutation found moved → length moved ≡ length found
      → AreInstancesOf flow loops p (map found_of found) → IsNonDecreasingBy (λ f. others flow (found_of f)) moved → IsDeep flow loops d
  is_deep found moved d place_is items has many permuted same all ordered =
      let known = moved_instances (map found_of found) (map found_of moved) (IsPermutation-map found_of found moved permuted) all in
      let order = nested moved has known ordered in
      record {
        deep = record {
          place = p;
          has = has;
          instances = map found_of moved;
          differ = known.differ;
          each = known.each;
          members = known.members;
          many = omega (arith, many, same, length-map moved found_of);
        };
        place_is = sym place_is;
        instances_are = ap (map found_of) (sym items);
        all = subst (λ (q : Place). AreInstancesOf flow loops q (map found_of d.instances.items)) (sym place_is)
            (subst (λ (fs : List LoopInstance). AreInstancesOf flow loops p (map found_of fs)) (sym items) known);
        nested = λ none. subst (λ (fs : List LoopInstance). AreNested flow (map found_of fs)) (sym items) (order none);
      }

  -- a place with few instances is not in too many
  pub not_deep : (found : List LoopInstance) → length found ≤ 16 → AreInstancesOf flow loops p (map found_of found) → (deep : HasDeepPlace flow loops) → deep.place ≡ p → ⊥
  not_deep found few all deep same =
      let among : All (Contains (map found_of found)) deep.instances =
      λ k d lt. all.all (get_or deep.instances k d) (deep.each k d lt) (subst (λ (q : Place). is_member (get_or deep.instances k d) q ≡ true) same (deep.members k d lt)) in
      let most = no_longer deep.instances (map found_of found) deep.differ among in
      omega (arith, most, few, deep.many, length-map found found_of)
