-- The instances that are found, loop by loop and place by place.
use Rattle.std.proofs.Common.{◌≡◌, ℕ, ◌+◌, ◌-◌, ◌<◌, ◌≤◌, ◌⊎◌, Bool, true, false, cond, List, [], ◌∷◌, ◌++◌, length, map, get_or, take, drop, sym, refl, ap, ◌∙◌, subst, inl, inr, ⊎_elim, append-nil, append_assoc, arith, length-append}
use Rattle.std.specs.Prelude.{Contains, All, AllPairs, ◌↔◌, ◌≢◌, not}
use Rattle.std.specs.BTreeSet.{BTreeSet, contains}
use Rattle.std.specs.Ordering.{nat_cmp, is_eq}
use Rattle.std.proofs.lemmas.Bool.{cases_eq, cases_lt, both_ways}
use Rattle.std.proofs.lemmas.Bool.Decides.{nat_tests}
use Rattle.std.proofs.lemmas.List.{get_or_default, get_or-take, get_or-drop, length-drop, length-take-le, length-map, take_more, get_or_append_left, get_or-map, map-append, map_push}
use Rattle.std.proofs.Math.Seq.{get_or-append_seam}
use Rattle.std.proofs.lemmas.List.Elements.{Contains-push, Contains-push_cases, Contains-append_left, Contains-append_right, Contains-append_cases}
use Rattle.control_flow.specs.declared.places.Place.{Place}
use Rattle.control_flow.specs.declared.places.Place.TheVariants.{At, Exit}
use Rattle.control_flow.proofs.LabelLemmas.{from_map, into_map, only_one}
use Rattle.statement.specs.declared.stated.Loop.{Loop}
use Rattle.loop_bounds.specs.declared.loop_instances.LoopInstance.{LoopInstance}
use Rattle.statement.specs.declared.apart.ApartStretch.{ApartStretch}
use Rattle.loop_bounds.specs.Instance.{Instance, instance_of}
use Rattle.loop_bounds.specs.Extents.{AreSeen, HeadersDiffer, IsFoundAmong, PlacesDiffer, found_instance, header_place}
use Rattle.loop_bounds.specs.Nest.{HasSharedHeader}

-- what a list of loops has past its end
abbrev pub no_loop : Loop
no_loop = record { header = 0; first = 0; last = 0; bound = 0 }

-- ## The loops at a header

part_has : {X : Type 0} (xs : List X) (first end : ℕ) (x : X) → end ≤ length xs → Contains (take (end - first) (drop first xs)) x → (k : ℕ) × (first ≤ k) × (k < end) × (get_or xs k x ≡ x)
part_has xs first end x inside has =
    let len : length (drop first xs) ≡ length xs - first = length-drop first xs in
    let long = length-take-le (end - first) (drop first xs) (omega arith) in
    let k_lt : has.0 < length (take (end - first) (drop first xs)) = has.1 in
    (first + has.0, omega arith, omega arith, sym (get_or-drop first xs has.0 x) ∙ sym (get_or-take (end - first) (drop first xs) has.0 x (omega arith)) ∙ has.2)

has_part : {X : Type 0} (xs : List X) (first end k : ℕ) (x : X) → end ≤ length xs → first ≤ k → k < end → get_or xs k x ≡ x → Contains (take (end - first) (drop first xs)) x
has_part xs first end k x inside low high is =
    let len : length (drop first xs) ≡ length xs - first = length-drop first xs in
    let long = length-take-le (end - first) (drop first xs) (omega arith) in
    let at : first + (k - first) ≡ k = omega arith in
    (k - first, omega arith, get_or-take (end - first) (drop first xs) (k - first) x (omega arith) ∙ get_or-drop first xs (k - first) x ∙ ap (λ (n : ℕ). get_or xs n x) at ∙ is)

pub at_header : (sorted : List Loop) (header first end : ℕ) → end ≤ length sorted → ((k : ℕ) (d : Loop) → k < first → (get_or sorted k d).header < header) → ((k : ℕ) (d : Loop) → first ≤ k → k < length sorted → header ≤ (get_or sorted k d).header) → ((k : ℕ) (d : Loop) → k < end → (get_or sorted k d).header ≤ header) → ((k : ℕ) (d : Loop) → end ≤ k → k < length sorted → header < (get_or sorted k d).header) → (l : Loop) → Contains (take (end - first) (drop first sorted)) l ↔ (Contains sorted l × (l.header ≡ header))
at_header sorted header first end inside below from upto above l = (
  (λ has.
      let k = part_has sorted first end l inside has in
      let h : header ≤ (get_or sorted k.0 l).header = from k.0 l k.1 (omega (arith, k.2)) in
      let g : (get_or sorted k.0 l).header ≤ header = upto k.0 l k.2 in
      let e : (get_or sorted k.0 l).header ≡ l.header = ap (λ (x : Loop). x.header) k.3 in
      ((k.0, omega (arith, k.2), k.3), omega arith)),
  (λ h.
      let k : ℕ = h.0.0 in
      let k_lt : k < length sorted = h.0.1 in
      let e : (get_or sorted k l).header ≡ l.header = ap (λ (x : Loop). x.header) h.0.2 in
      let is : l.header ≡ header = h.1 in
      let low : first ≤ k = ⊎_elim (λ (lt : k < first). let b = below k l lt in absurd (omega arith)) (λ (ge : first ≤ k). ge) (cases_lt k first) in
      let high : k < end = ⊎_elim (λ (lt : k < end). lt) (λ (ge : end ≤ k). let b = above k l ge k_lt in absurd (omega arith)) (cases_lt k end) in
      has_part sorted first end k l inside low high h.0.2),
)

pub first_upto_end : (sorted : List Loop) (header first end : ℕ) → first ≤ length sorted → ((k : ℕ) (d : Loop) → k < first → (get_or sorted k d).header < header) → ((k : ℕ) (d : Loop) → end ≤ k → k < length sorted → header < (get_or sorted k d).header) → first ≤ end
first_upto_end sorted header first end inside below above = ⊎_elim
    (λ (lt : end < first).
    let a = below end no_loop lt in
    let b = above end no_loop (omega arith) (omega arith) in
    absurd (omega arith))
    (λ (ge : first ≤ end). ge)
    (cases_lt end first)

-- ## Instances at a place

abbrev pub found_at : List ℕ → Loop → LoopInstance
found_at list l = record { list = list; stated = l }

has_map : (apart : List ApartStretch) (loops : List Loop) (list : List ℕ) (i : Instance) → Contains (map (found_instance apart) (map (found_at list) loops)) i → (l : Loop) × Contains loops l × (i ≡ instance_of apart l list)
has_map apart loops list i has =
    let f = from_map (found_instance apart) (map (found_at list) loops) i has in
    let l = from_map (found_at list) loops f.0 f.1 in
    (l.0, l.1, sym f.2 ∙ ap (found_instance apart) (sym l.2))

map_has : (apart : List ApartStretch) (loops : List Loop) (list : List ℕ) (l : Loop) → Contains loops l → Contains (map (found_instance apart) (map (found_at list) loops)) (instance_of apart l list)
map_has apart loops list l has = into_map (found_instance apart) (map (found_at list) loops) (found_at list l) (into_map (found_at list) loops l has)

pub added : (apart : List ApartStretch) (loops : List Loop) (sorted : List Loop) (list : List ℕ) (address : ℕ) (old new : List LoopInstance) → ((l : Loop) → Contains loops l ↔ (Contains sorted l × (l.header ≡ address))) → new ≡ old ++ map (found_at list) loops → (i : Instance) → Contains (map (found_instance apart) new) i ↔ (Contains (map (found_instance apart) old) i ⊎ IsFoundAmong apart (At list address ∷ []) sorted i)
added apart loops sorted list address old new exact is i =
    let all : map (found_instance apart) new ≡ map (found_instance apart) old ++ map (found_instance apart) (map (found_at list) loops) = ap (map (found_instance apart)) is ∙ map-append (found_instance apart) old (map (found_at list) loops) in (
      (λ has. ⊎_elim
          (λ before. inl before)
          (λ here.
          let h = has_map apart loops list i here in
          let g = (exact h.0).0 h.1 in
          inr (record {
            stated_loop = h.0;
            stated = g.0;
            reached = (0, omega arith, (λ j. At (sym (ap (λ (x : Instance). x.list) h.2) j) (sym (ap (λ (x : Instance). x.header) h.2 ∙ g.1) j)));
            parts = h.2 ∙ ap (λ (xs : List ℕ). instance_of apart h.0 xs) (sym (ap (λ (x : Instance). x.list) h.2));
          }))
          (Contains-append_cases (map (found_instance apart) old) (map (found_instance apart) (map (found_at list) loops)) i (subst (λ (xs : List Instance). Contains xs i) all has))),
      (λ h. subst (λ (xs : List Instance). Contains xs i) (sym all) (⊎_elim
          (λ before. Contains-append_left (map (found_instance apart) old) _ i before)
          (λ f.
          let place : At list address ≡ At i.list i.header = only_one (At list address) (At i.list i.header) f.reached in
          let list_is : list ≡ i.list = cc in
          let header_is : address ≡ i.header = cc in
          let loop_header : f.stated_loop.header ≡ address = sym (ap (λ (x : Instance). x.header) f.parts) ∙ sym header_is in
          let i_is : instance_of apart f.stated_loop list ≡ i = ap (λ (xs : List ℕ). instance_of apart f.stated_loop xs) list_is ∙ sym f.parts in
          Contains-append_right (map (found_instance apart) old) _ i (subst (Contains (map (found_instance apart) (map (found_at list) loops))) i_is (map_has apart loops list f.stated_loop ((exact f.stated_loop).1 (f.stated, loop_header)))))
          h)),
    )

-- no instance has Exit for its header
pub none_at_exit : (apart : List ApartStretch) (sorted : List Loop) (old : List LoopInstance) (i : Instance) → Contains (map (found_instance apart) old) i ↔ (Contains (map (found_instance apart) old) i ⊎ IsFoundAmong apart (Exit ∷ []) sorted i)
none_at_exit apart sorted old i = (
  (λ h. inl h),
  (λ h. ⊎_elim (λ before. before) (λ f. let x : Exit ≡ At i.list i.header = only_one Exit (At i.list i.header) f.reached in cc) h),
)

-- ## Instances among places

pub among_none : (apart : List ApartStretch) (sorted : List Loop) (i : Instance) → IsFoundAmong apart [] sorted i → ⊥
among_none apart sorted i f = omega (arith, f.reached.1)

pub among_more : (apart : List ApartStretch) (places : List Place) (sorted : List Loop) (k : ℕ) (p : Place) (i : Instance) → k < length places → p ≡ get_or places k p → IsFoundAmong apart (take (k + 1) places) sorted i ↔ (IsFoundAmong apart (take k places) sorted i ⊎ IsFoundAmong apart (p ∷ []) sorted i)
among_more apart places sorted k p i lt is =
    let more : take (k + 1) places ≡ take k places ++ p ∷ [] = take_more places k p lt ∙ ap (λ (x : Place). take k places ++ x ∷ []) (sym is) in (
      (λ f. ⊎_elim
          (λ before. inl (record { stated_loop = f.stated_loop; stated = f.stated; reached = before; parts = f.parts }))
          (λ here. inr (record { stated_loop = f.stated_loop; stated = f.stated; reached = here; parts = f.parts }))
          (Contains-append_cases (take k places) (p ∷ []) (At i.list i.header) (subst (λ (xs : List Place). Contains xs (At i.list i.header)) more f.reached))),
      (λ h. ⊎_elim
          (λ f. record { stated_loop = f.stated_loop; stated = f.stated; reached = subst (λ (xs : List Place). Contains xs (At i.list i.header)) (sym more) (Contains-append_left (take k places) (p ∷ []) (At i.list i.header) f.reached); parts = f.parts })
          (λ f. record { stated_loop = f.stated_loop; stated = f.stated; reached = subst (λ (xs : List Place). Contains xs (At i.list i.header)) (sym more) (Contains-append_right (take k places) (p ∷ []) (At i.list i.header) f.reached); parts = f.parts })
          h),
    )

pub found_more : (old now : List LoopInstance) (list : List ℕ) (loops : List Loop) (k : ℕ) → k < length loops → now ≡ old ++ map (found_at list) (take k loops) → now ++ found_at list (get_or loops k no_loop) ∷ [] ≡ old ++ map (found_at list) (take (k + 1) loops)
found_more old now list loops k lt is =
    ap (λ (xs : List LoopInstance). xs ++ found_at list (get_or loops k no_loop) ∷ []) is ∙ append_assoc old (map (found_at list) (take k loops)) (found_at list (get_or loops k no_loop) ∷ [])
    ∙ ap (λ (xs : List LoopInstance). old ++ xs) (sym (ap (map (found_at list)) (take_more loops k no_loop lt) ∙ map_push (found_at list) (take k loops) (get_or loops k no_loop)))

-- ## Headers that are seen

from_eq : (a b : ℕ) → is_eq (nat_cmp a b) ≡ true → a ≡ b
from_eq a b h = ⊎_elim (λ (e : a ≡ b). e) (λ (ne : a ≡ b → ⊥). let x : is_eq (nat_cmp a b) ≡ false = grind (arith, nat_tests) in absurd (both_ways (is_eq (nat_cmp a b)) x h)) (cases_eq a b)

eq_from : (a b : ℕ) → a ≡ b → is_eq (nat_cmp a b) ≡ true
eq_from a b e = grind (arith, nat_tests)

cond_true : (b was : Bool) → cond b true was ≡ true → (b ≡ true) ⊎ (was ≡ true)
cond_true true was h = inl refl
cond_true false was h = inr h

true_cond : (b was : Bool) → (b ≡ true) ⊎ (was ≡ true) → cond b true was ≡ true
true_cond true was h = refl
true_cond false was h = ⊎_elim (λ e. cc) (λ e. e) h

pub seen_more : (loops : List Loop) (old new : BTreeSet ℕ) (i : ℕ) → AreSeen loops old i → i < length loops → contains nat_cmp old (get_or loops i no_loop).header ≡ false → ((q : ℕ) → contains nat_cmp new q ≡ cond (is_eq (nat_cmp (get_or loops i no_loop).header q)) true (contains nat_cmp old q)) → AreSeen loops new (i + 1)
seen_more loops old new i so_far lt fresh updates =
    let own : ℕ = (get_or loops i no_loop).header in
    let here : (d : Loop) → (get_or loops i d).header ≡ own = λ d. ap (λ (l : Loop). l.header) (get_or_default loops i d no_loop lt) in
    record {
      seen = λ h. (
        (λ yes_. ⊎_elim
            (λ e. (i, omega arith, λ d. here d ∙ from_eq own h e))
            (λ was. let k = (so_far.seen h).0 was in (k.0, omega (arith, k.1), k.2))
            (cond_true (is_eq (nat_cmp own h)) (contains nat_cmp old h) (sym (updates h) ∙ yes_))),
        (λ k. updates h ∙ true_cond (is_eq (nat_cmp own h)) (contains nat_cmp old h) (⊎_elim
            (λ (same : k.0 ≡ i). inl (eq_from own h (sym (here no_loop) ∙ ap (λ (n : ℕ). (get_or loops n no_loop).header) (sym same) ∙ k.2 no_loop)))
            (λ (other : k.0 ≡ i → ⊥). inr ((so_far.seen h).1 (k.0, omega (arith, k.1), k.2)))
            (cases_eq k.0 i))),
      );
      differ = λ j k d less below same. ⊎_elim
          (λ (top : k ≡ i).
          let j_lt : j < length loops = omega arith in
          let is : (get_or loops j d).header ≡ own = same ∙ ap (λ (n : ℕ). (get_or loops n d).header) top ∙ here d in
          both_ways (contains nat_cmp old own) fresh ((so_far.seen own).1 (j, omega arith, λ e. ap (λ (l : Loop). l.header) (get_or_default loops j e d j_lt) ∙ is)))
          (λ (other : k ≡ i → ⊥). so_far.differ j k d less (omega arith) same)
          (cases_eq k i);
    }

pub shared_here : (loops : List Loop) (headers : BTreeSet ℕ) (i : ℕ) → AreSeen loops headers i → i < length loops → contains nat_cmp headers (get_or loops i no_loop).header ≡ true → HasSharedHeader loops
shared_here loops headers i so_far lt there =
    let k = (so_far.seen (get_or loops i no_loop).header).0 there in
    record { one = k.0; other = i; differ = k.1; inside = lt; same = λ d. k.2 d ∙ ap (λ (l : Loop). l.header) (get_or_default loops i no_loop d lt) }

pub none_shared : (loops : List Loop) (headers : BTreeSet ℕ) (i : ℕ) → AreSeen loops headers i → length loops ≤ i → HasSharedHeader loops → ⊥
none_shared loops headers i so_far done h = so_far.differ h.one h.other no_loop h.differ (omega (arith, h.inside)) (h.same no_loop)

pub true_from_not : (b : Bool) → false ≡ not b → b ≡ true
true_from_not true h = refl
true_from_not false h = cc

-- ## Each instance once

pub at_most_one : (sorted : List Loop) (header first end : ℕ) → end ≤ length sorted → ((k : ℕ) (d : Loop) → first ≤ k → k < length sorted → header ≤ (get_or sorted k d).header) → ((k : ℕ) (d : Loop) → k < end → (get_or sorted k d).header ≤ header) → HeadersDiffer sorted → length (take (end - first) (drop first sorted)) ≤ 1
at_most_one sorted header first end inside from upto differ =
    let len : length (drop first sorted) ≡ length sorted - first = length-drop first sorted in
    let long : length (take (end - first) (drop first sorted)) ≡ end - first = length-take-le (end - first) (drop first sorted) (omega arith) in
    ⊎_elim
    (λ (more : first + 1 < end).
    let a = from first no_loop (omega arith) (omega arith) in
    let b = upto first no_loop (omega arith) in
    let c = from (first + 1) no_loop (omega arith) (omega arith) in
    let e = upto (first + 1) no_loop more in
    let same : (get_or sorted first no_loop).header ≡ (get_or sorted (first + 1) no_loop).header = omega arith in
    absurd (differ first (first + 1) no_loop (omega arith) (omega arith) same))
    (λ (few : end ≤ first + 1). omega arith)
    (cases_lt (first + 1) end)

differ_push : (old : List LoopInstance) (f : LoopInstance) → PlacesDiffer old → All (λ g. header_place g ≢ header_place f) old → PlacesDiffer (old ++ f ∷ [])
differ_push old f pairs apart j k d less lt =
    let len : length (old ++ f ∷ []) ≡ length old + 1 = length-append old (f ∷ []) in
    ⊎_elim
    (λ (top : k ≡ length old).
    let at_k : get_or (old ++ f ∷ []) k d ≡ f = ap (λ (n : ℕ). get_or (old ++ f ∷ []) n d) top ∙ get_or-append_seam old f [] d in
    rw (at_k, get_or_append_left old (f ∷ []) d j (omega arith)) (apart j d (omega arith)))
    (λ (below : k ≡ length old → ⊥). rw (get_or_append_left old (f ∷ []) d k (omega arith), get_or_append_left old (f ∷ []) d j (omega arith)) (pairs j k d less (omega arith)))
    (cases_eq k (length old))

pub differ_more : (loops : List Loop) (list : List ℕ) (address : ℕ) (old new : List LoopInstance) → length loops ≤ 1 → ((l : Loop) → Contains loops l → l.header ≡ address) → new ≡ old ++ map (found_at list) loops → PlacesDiffer old → All (λ f. header_place f ≢ At list address) old → PlacesDiffer new
differ_more [] list address old new few headers is pairs others = subst PlacesDiffer (sym (is ∙ append-nil old)) pairs
differ_more (l ∷ []) list address old new few headers is pairs others =
    let header : l.header ≡ address = headers l (0, omega arith, refl) in
    subst PlacesDiffer (sym is) (differ_push old (found_at list l) pairs (subst (λ (a : ℕ). All (λ f. header_place f ≢ At list a) old) (sym header) others))
differ_more (l ∷ m ∷ loops) list address old new few headers is pairs others = absurd (omega arith)

pub apart_from : (apart : List ApartStretch) (places : List Place) (sorted : List Loop) (found : List LoopInstance) (k : ℕ) (p : Place) → k < length places → p ≡ get_or places k p → ((i : Instance) → Contains (map (found_instance apart) found) i → IsFoundAmong apart (take k places) sorted i) → AllPairs (λ (x : Place) (y : Place). x ≢ y) places → All (λ f. header_place f ≢ p) found
apart_from apart places sorted found k p lt is among differ j d inside same =
    let f : LoopInstance = get_or found j d in
    let has : Contains (map (found_instance apart) found) ((found_instance apart) f) = (j, omega (arith, length-map found (found_instance apart)), get_or-map (found_instance apart) found j d ((found_instance apart) f) inside) in
    let m = among ((found_instance apart) f) has in
    let m_lt : (m.reached).0 < k = omega (arith, (m.reached).1, length-take-le k places (omega arith)) in
    let at : get_or places (m.reached).0 p ≡ header_place f = get_or_default places (m.reached).0 p (header_place f) (omega arith) ∙ sym (get_or-take k places (m.reached).0 (header_place f) m_lt) ∙ (m.reached).2 in
    differ (m.reached).0 k p m_lt lt (at ∙ same ∙ is)

-- ## The instances with one list of calls

one_more : (loops : List Loop) (k : ℕ) → k < length loops → take (k + 1) loops ≡ take k loops ++ get_or loops k no_loop ∷ []
one_more loops k lt = take_more loops k no_loop lt

-- the instances of the first loops with the list
pub record AreWith (apart : List ApartStretch) (places : List Place) (loops : List Loop) (list : List ℕ) (found : List LoopInstance) (limit : ℕ) : Type 0 where
  pub exact : (i : Instance) → Contains (map (found_instance apart) found) i ↔ (IsFoundAmong apart places (take limit loops) i × (i.list ≡ list))

pub with_none : (apart : List ApartStretch) (places : List Place) (loops : List Loop) (list : List ℕ) (found : List LoopInstance) → found ≡ [] → AreWith apart places loops list found 0
with_none apart places loops list found none = record {
  exact = λ i. (
    (λ has. absurd (omega (arith, (subst (λ (xs : List LoopInstance). Contains (map (found_instance apart) xs) i) none has).1))),
    (λ h. absurd (omega (arith, ((h.0).stated).1, length-take-le 0 loops (omega arith)))),
  );
}

pub with_one : (apart : List ApartStretch) (places : List Place) (loops : List Loop) (list : List ℕ) (found : List LoopInstance) (k : ℕ) → AreWith apart places loops list found k → k < length loops → Contains places (At list (get_or loops k no_loop).header) → AreWith apart places loops list (found ++ found_at list (get_or loops k no_loop) ∷ []) (k + 1)
with_one apart places loops list found k so_far lt reached =
    let l : Loop = get_or loops k no_loop in
    let more : take (k + 1) loops ≡ take k loops ++ l ∷ [] = one_more loops k lt in
    let all : map (found_instance apart) (found ++ found_at list l ∷ []) ≡ map (found_instance apart) found ++ instance_of apart l list ∷ [] = map-append (found_instance apart) found (found_at list l ∷ []) in
    record {
      exact = λ i. (
        (λ has. ⊎_elim
            (λ before. let h = (so_far.exact i).0 before in (record { stated_loop = (h.0).stated_loop; stated = subst (λ (xs : List Loop). Contains xs (h.0).stated_loop) (sym more) (Contains-append_left (take k loops) (l ∷ []) (h.0).stated_loop (h.0).stated); reached = (h.0).reached; parts = (h.0).parts }, h.1))
            (λ (new : instance_of apart l list ≡ i). (
              record {
                stated_loop = l;
                stated = subst (λ (xs : List Loop). Contains xs l) (sym more) (Contains-push (take k loops) l);
                reached = subst (λ (j : Instance). Contains places (At j.list j.header)) new reached;
                parts = sym new ∙ ap (λ (j : Instance). instance_of apart l j.list) new;
              },
              sym (ap (λ (j : Instance). j.list) new),
            ))
            (Contains-push_cases (map (found_instance apart) found) (instance_of apart l list) i (subst (λ (xs : List Instance). Contains xs i) all has))),
        (λ h. subst (λ (xs : List Instance). Contains xs i) (sym all) (⊎_elim
            (λ before. Contains-append_left (map (found_instance apart) found) (instance_of apart l list ∷ []) i ((so_far.exact i).1 (record { stated_loop = (h.0).stated_loop; stated = before; reached = (h.0).reached; parts = (h.0).parts }, h.1)))
            (λ (new : l ≡ (h.0).stated_loop). subst (Contains (map (found_instance apart) found ++ instance_of apart l list ∷ [])) (ap (λ (m : Loop). instance_of apart m list) new ∙ ap (instance_of apart (h.0).stated_loop) (sym h.1) ∙ sym (h.0).parts) (Contains-push (map (found_instance apart) found) (instance_of apart l list)))
            (Contains-push_cases (take k loops) l (h.0).stated_loop (subst (λ (xs : List Loop). Contains xs (h.0).stated_loop) more (h.0).stated)))),
      );
    }

pub with_same : (apart : List ApartStretch) (places : List Place) (loops : List Loop) (list : List ℕ) (found : List LoopInstance) (k : ℕ) → AreWith apart places loops list found k → k < length loops → (Contains places (At list (get_or loops k no_loop).header) → ⊥) → AreWith apart places loops list found (k + 1)
with_same apart places loops list found k so_far lt unreached =
    let l : Loop = get_or loops k no_loop in
    let more : take (k + 1) loops ≡ take k loops ++ l ∷ [] = one_more loops k lt in
    record {
      exact = λ i. (
        (λ has. let h = (so_far.exact i).0 has in (record { stated_loop = (h.0).stated_loop; stated = subst (λ (xs : List Loop). Contains xs (h.0).stated_loop) (sym more) (Contains-append_left (take k loops) (l ∷ []) (h.0).stated_loop (h.0).stated); reached = (h.0).reached; parts = (h.0).parts }, h.1)),
        (λ h. ⊎_elim
            (λ before. (so_far.exact i).1 (record { stated_loop = (h.0).stated_loop; stated = before; reached = (h.0).reached; parts = (h.0).parts }, h.1))
            (λ (new : l ≡ (h.0).stated_loop).
            let header : i.header ≡ l.header = ap (λ (j : Instance). j.header) (h.0).parts ∙ ap (λ (m : Loop). m.header) (sym new) in
            absurd (unreached (subst (Contains places) (λ j. At (h.1 j) (header j)) (h.0).reached)))
            (Contains-push_cases (take k loops) l (h.0).stated_loop (subst (λ (xs : List Loop). Contains xs (h.0).stated_loop) more (h.0).stated))),
      );
    }
