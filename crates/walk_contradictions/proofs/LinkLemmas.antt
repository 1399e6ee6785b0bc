-- What is marked on both ways through a walk are the words whose conditions exclude one another.
use Rattle.std.proofs.Common.{◌≡◌, ◌∙◌, ℕ, ◌⊎◌, inl, inr, Bool, true, false, List, [], ◌∷◌, ◌++◌, append_assoc, reverse, Result, Ok, Err, refl, sym, ap, subst}
use Rattle.std.specs.Prelude.{◌↔◌, Contains}
use Rattle.std.specs.BTreeSet.{BTreeSet, contains}
use Rattle.std.specs.BTreeMap as map
use Rattle.std.specs.List.{list_any}
use Rattle.std.specs.List.Sorted.{IsStrictlySortedBy}
use Rattle.std.specs.Ordering.{nat_cmp}
use Rattle.std.specs.Result.{IfOk}
use Rattle.std.proofs.lemmas.Cmp.{nat_cmp_total}
use Rattle.std.proofs.lemmas.Map.Lookups.{exact_unsigned}
use Rattle.std.proofs.lemmas.Map.Views.{btree_set_contains_iff}
use Rattle.std.proofs.lemmas.List.{reverse-append, reverse-reverse}
use Rattle.std.proofs.lemmas.List.Elements.{All-append, All-cons, All-head, All-nil, All-tail}
use Rattle.control_flow.specs.declared.edges.Edge.{Edge}
use Rattle.image.specs.Image.{Words}
use Rattle.text_explained.specs.Taken.{is_at}
use Rattle.walk_contradictions.specs.Contradictions.{AreContradicted, Contradicts, IsContradicted}
use Rattle.walk_contradictions.specs.Outcomes.{Exclude, MaySet, NoneSets, Tells}
use Rattle.walk_contradictions.specs.Passing.{After, Clashes, In, Marks, Next, Notes, has}
use Rattle.walk_contradictions.specs.declared.outcomes.Outcomes.{Outcomes}
use Rattle.walk_contradictions.specs.declared.outcomes.Outcome.{Outcome}
use Rattle.walk_contradictions.specs.declared.passing.Direction.{Direction}
use Rattle.walk_contradictions.specs.declared.passing.Direction.TheVariants.{Forward, Backward}
use Rattle.walk_contradictions.proofs.PassLemmas.{Nothing, Set, after_append, after_from, after_to, marks_back, marks_wider}

-- the last edge at which the flags may have been set since the outcome was told, and those behind it
abbrev lasting : Direction → Edge → List Edge → List Edge
lasting Forward e rest = e ∷ rest
lasting Backward e rest = rest

flip : (one other : Outcome) → Exclude one other → Exclude other one
flip one other excluded flags gives_other gives_one = excluded flags gives_one gives_other

reverse_cons : {X : Type 0} (x : X) (xs : List X) → reverse (x ∷ xs) ≡ reverse xs ++ x ∷ []
reverse_cons x xs = reverse-append (x ∷ []) xs

-- a list of which two elements are named, from its end
reversed : {X : Type 0} (before between behind : List X) (first second : X)
    → reverse (before ++ (first ∷ between) ++ second ∷ behind) ≡ reverse behind ++ (second ∷ reverse between) ++ first ∷ reverse before
reversed before between behind first second =
    reverse-append (before ++ (first ∷ between)) (second ∷ behind)
    ∙ ap (λ x. x ++ reverse (before ++ (first ∷ between))) (reverse_cons second behind)
    ∙ ap (λ x. (reverse behind ++ second ∷ []) ++ x) (reverse-append before (first ∷ between) ∙ ap (λ x. x ++ reverse before) (reverse_cons first between))
    ∙ append_assoc (reverse behind) (second ∷ []) ((reverse between ++ first ∷ []) ++ reverse before)
    ∙ ap (λ x. reverse behind ++ (second ∷ x)) (append_assoc (reverse between) (first ∷ []) (reverse before))
    ∙ sym (append_assoc (reverse behind) (second ∷ reverse between) (first ∷ reverse before))

-- what an empty set has
pub lacking : (set : Outcomes) → ((o : Outcome) → has set o ≡ false) → (o : Outcome) → In set o → ⊥
lacking set none o is = absurd (no_both (sym (none o) ∙ is))
  where
    no_both : false ≡ true → ⊥
    no_both both = absurd (cc)

pub nowhere : (set : BTreeSet ℕ) → set.keys ≡ [] → (a : ℕ) → contains nat_cmp set a ≡ true → ⊥
nowhere set empty a is = absurd (no_both (sym (ap (list_any (map.is_at (nat_cmp a))) empty) ∙ is))
  where
    no_both : false ≡ true → ⊥
    no_both both = absurd (cc)

module _ (words : Words) where
  none_reverse : (w : List Edge) → NoneSets words w → NoneSets words (reverse w)
  none_reverse [] none = none
  none_reverse (e ∷ w) none =
      subst (NoneSets words) (sym (reverse_cons e w))
      (All-append (λ (x : Edge). MaySet words x → ⊥) (reverse w) (e ∷ []) (none_reverse w (All-tail (λ (x : Edge). MaySet words x → ⊥) e w none))
      (All-cons (λ (x : Edge). MaySet words x → ⊥) e [] (All-head (λ (x : Edge). MaySet words x → ⊥) e w none) (All-nil (λ (x : Edge). MaySet words x → ⊥))))

  module _ (d : Direction) where
    -- ## Marks

    record IsSplit (w : List Edge) (B : Set) (a : ℕ) : Type 0 where
      pub front : List Edge
      pub e : Edge
      pub rest : List Edge
      pub walk_is : w ≡ front ++ e ∷ rest
      pub is : is_at a e.from ≡ true
      pub clashes : Clashes words d e (After words d front B)

    split : (w : List Edge) (B : Set) (a : ℕ) → Marks words d w B a → IsSplit w B a
    split [] B a m = absurd m
    split (e ∷ w) B a (inl (is, c)) = record { front = []; e = e; rest = w; walk_is = refl; is = is; clashes = c }
    split (e ∷ w) B a (inr m) =
        let s = split w (Next words d e B) a m in
        record { front = e ∷ s.front; e = s.e; rest = s.rest; walk_is = ap (λ (x : List Edge). e ∷ x) s.walk_is; is = s.is; clashes = s.clashes }

    marked : (front : List Edge) (e : Edge) (rest : List Edge) (B : Set) (a : ℕ) → is_at a e.from ≡ true → Clashes words d e (After words d front B)
        → Marks words d (front ++ e ∷ rest) B a
    marked front e rest B a is c = marks_back words d front (e ∷ rest) B a (inl (is, c))

    -- ## Outcomes

    record Lasts (w : List Edge) (o : Outcome) : Type 0 where
      pub front : List Edge
      pub e : Edge
      pub rest : List Edge
      pub walk_is : w ≡ front ++ e ∷ rest
      pub tells : Tells words e o
      pub none : NoneSets words (lasting d e rest)

    lasts_more : (e : Edge) (w : List Edge) (o : Outcome) → Lasts w o → Lasts (e ∷ w) o
    lasts_more e w o l =
        record { front = e ∷ l.front; e = l.e; rest = l.rest; walk_is = ap (λ (x : List Edge). e ∷ x) l.walk_is; tells = l.tells; none = l.none }

  next_told : (d : Direction) (e : Edge) (w : List Edge) (o : Outcome) → NoneSets words w → Next words d e Nothing o → Lasts d (e ∷ w) o
  next_told Forward e w o none (free, inl n) = absurd n
  next_told Forward e w o none (free, inr t) =
      record { front = []; e = e; rest = w; walk_is = refl; tells = t; none = All-cons (λ (x : Edge). MaySet words x → ⊥) e w free none }
  next_told Backward e w o none (inl (free, n)) = absurd n
  next_told Backward e w o none (inr t) = record { front = []; e = e; rest = w; walk_is = refl; tells = t; none = none }

  lasts : (d : Direction) (w : List Edge) (o : Outcome) → After words d w Nothing o → Lasts d w o
  lasts d [] o n = absurd n
  lasts d (e ∷ w) o x = by_case (lasts d w o) (after_from words d w (Next words d e Nothing) o x)
    where
      by_case : (After words d w Nothing o → Lasts d w o) → (NoneSets words w × Next words d e Nothing o) ⊎ After words d w Nothing o → Lasts d (e ∷ w) o
      by_case rest (inl (none, n)) = next_told d e w o none n
      by_case rest (inr y) = lasts_more d e w o (rest y)

  told_next : (d : Direction) (e : Edge) (rest : List Edge) (B : Set) (o : Outcome) → Tells words e o → NoneSets words (lasting d e rest) → NoneSets words rest × Next words d e B o
  told_next Forward e rest B o t none = (
    All-tail (λ (x : Edge). MaySet words x → ⊥) e rest none,
    (All-head (λ (x : Edge). MaySet words x → ⊥) e rest none, inr t),
  )
  told_next Backward e rest B o t none = (none, inr t)

  lasting_after : (d : Direction) (front : List Edge) (e : Edge) (rest : List Edge) (B : Set) (o : Outcome) → Tells words e o → NoneSets words (lasting d e rest)
      → After words d (front ++ e ∷ rest) B o
  lasting_after d front e rest B o t none =
      let n = told_next d e rest (After words d front B) o t none in
      subst (λ (T : Type 0). T) (sym (after_append words d front (e ∷ rest) B o)) (after_to words d rest (Next words d e (After words d front B)) n.0 o n.1)

  -- ## Forward: the second of the two

  record IsSecond (walk : List Edge) (a : ℕ) : Type 0 where
    pub first : Edge
    pub second : Edge
    pub contradicts : Contradicts words walk first second
    pub is : is_at a second.from ≡ true

  second_of : (walk : List Edge) (a : ℕ) → Marks words Forward walk Nothing a → IsSecond walk a
  second_of walk a m =
      let s = split Forward walk Nothing a m in
      let c = s.clashes in
      let l = lasts Forward s.front c.one c.met in
      record {
        first = l.e;
        second = s.e;
        contradicts = record {
          before = l.front;
          between = l.rest;
          behind = s.rest;
          walk_is = s.walk_is ∙ ap (λ (x : List Edge). x ++ s.e ∷ s.rest) l.walk_is;
          none_sets = l.none;
          one = c.one;
          other = c.other;
          tells_one = l.tells;
          tells_other = c.tells;
          excluded = c.excluded;
        };
        is = s.is;
      }

  of_second : (walk : List Edge) (first second : Edge) (a : ℕ) → Contradicts words walk first second → is_at a second.from ≡ true → Marks words Forward walk Nothing a
  of_second walk first second a c is =
      subst (λ (w : List Edge). Marks words Forward w Nothing a) (sym c.walk_is)
      (marked Forward (c.before ++ (first ∷ c.between)) second c.behind Nothing a is (record {
        one = c.one;
        other = c.other;
        met = lasting_after Forward c.before first c.between Nothing c.one c.tells_one c.none_sets;
        tells = c.tells_other;
        excluded = c.excluded;
      }))

  -- ## Backward: the first

  record IsFirst (walk : List Edge) (a : ℕ) : Type 0 where
    pub first : Edge
    pub second : Edge
    pub contradicts : Contradicts words walk first second
    pub is : is_at a first.from ≡ true

  first_of : (walk : List Edge) (a : ℕ) → Marks words Backward (reverse walk) Nothing a → IsFirst walk a
  first_of walk a m =
      let s = split Backward (reverse walk) Nothing a m in
      let c = s.clashes in
      let l = lasts Backward s.front c.one c.met.1 in
      record {
        first = s.e;
        second = l.e;
        contradicts = record {
          before = reverse s.rest;
          between = reverse l.rest;
          behind = reverse l.front;
          walk_is = sym (reverse-reverse walk) ∙ ap reverse (s.walk_is ∙ ap (λ (x : List Edge). x ++ s.e ∷ s.rest) l.walk_is)
              ∙ reversed l.front l.rest s.rest l.e s.e;
          none_sets = All-cons (λ (x : Edge). MaySet words x → ⊥) s.e (reverse l.rest) c.met.0 (none_reverse l.rest l.none);
          one = c.other;
          other = c.one;
          tells_one = c.tells;
          tells_other = l.tells;
          excluded = flip c.one c.other c.excluded;
        };
        is = s.is;
      }

  of_first : (walk : List Edge) (first second : Edge) (a : ℕ) → Contradicts words walk first second → is_at a first.from ≡ true
      → Marks words Backward (reverse walk) Nothing a
  of_first walk first second a c is =
      subst (λ (w : List Edge). Marks words Backward w Nothing a)
      (sym (ap reverse c.walk_is ∙ reversed c.before c.between c.behind first second))
      (marked Backward (reverse c.behind ++ (second ∷ reverse c.between)) first (reverse c.before) Nothing a is (record {
        one = c.other;
        other = c.one;
        met = (
          All-head (λ (x : Edge). MaySet words x → ⊥) first c.between c.none_sets,
          lasting_after Backward (reverse c.behind) second (reverse c.between) Nothing c.other c.tells_other
              (none_reverse c.between (All-tail (λ (x : Edge). MaySet words x → ⊥) first c.between c.none_sets)),
        );
        tells = c.tells_one;
        excluded = flip c.one c.other c.excluded;
      }))

  -- ## Both

  pub both_ways_marked : (walk : List Edge) (B C : Set) (zero one all : ℕ → Bool) → ((o : Outcome) → B o → ⊥) → ((o : Outcome) → C o → ⊥) → ((a : ℕ) → zero a ≡ true → ⊥)
      → Notes (Marks words Forward walk B) zero one → Notes (Marks words Backward (reverse walk) C) one all
      → (a : ℕ) → (all a ≡ true) ↔ IsContradicted words walk a
  both_ways_marked walk B C zero one all no_b no_c nowhere forward backward a = (to, from)
    where
      by_first : (zero a ≡ true) ⊎ Marks words Forward walk B a → IsContradicted words walk a
      by_first (inl x) = absurd (nowhere a x)
      by_first (inr m) =
          let s = second_of walk a (marks_wider words Forward walk B Nothing no_b a m) in
          record { first = s.first; second = s.second; contradicts = s.contradicts; is_one = inr s.is }

      by_last : (one a ≡ true) ⊎ Marks words Backward (reverse walk) C a → IsContradicted words walk a
      by_last (inl x) = by_first ((forward a).0 x)
      by_last (inr m) =
          let s = first_of walk a (marks_wider words Backward (reverse walk) C Nothing no_c a m) in
          record { first = s.first; second = s.second; contradicts = s.contradicts; is_one = inl s.is }

      to : all a ≡ true → IsContradicted words walk a
      to x = by_last ((backward a).0 x)

      by_place : (c : IsContradicted words walk a) → (is_at a c.first.from ≡ true) ⊎ (is_at a c.second.from ≡ true) → all a ≡ true
      by_place c (inl is) =
          (backward a).1 (inr (marks_wider words Backward (reverse walk) Nothing C (λ (o : Outcome) (n : Nothing o). absurd n) a
          (of_first walk c.first c.second a c.contradicts is)))
      by_place c (inr is) =
          (backward a).1 (inl ((forward a).1 (inr (marks_wider words Forward walk Nothing B (λ (o : Outcome) (n : Nothing o). absurd n) a
          (of_second walk c.first c.second a c.contradicts is)))))

      from : IsContradicted words walk a → all a ≡ true
      from c = by_place c c.is_one

  pub are_contradicted : (walk : List Edge) (set : BTreeSet ℕ) (named : List ℕ) → ((a : ℕ) → (contains nat_cmp set a ≡ true) ↔ IsContradicted words walk a)
      → named ≡ set.keys → IsStrictlySortedBy nat_cmp named → AreContradicted words walk named
  are_contradicted walk set named found is ascending = record {
    ascending = ascending;
    each = λ a. (
      λ has. (found a).0 ((btree_set_contains_iff nat_cmp_total exact_unsigned set a).1 (subst (λ (xs : List ℕ). Contains xs a) is has)),
      λ c. subst (λ (xs : List ℕ). Contains xs a) (sym is) ((btree_set_contains_iff nat_cmp_total exact_unsigned set a).0 ((found a).1 c)),
    );
  }

pub both_ok : {T E : Type 0} (r : Result T E) (P Q R : T → Type 0) → ((x : T) → P x → Q x → R x) → IfOk r P → IfOk r Q → IfOk r R
both_ok (Ok x) P Q R f p q = f x p q
both_ok (Err e) P Q R f p q = tt
