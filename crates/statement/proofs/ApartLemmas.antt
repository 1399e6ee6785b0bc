-- Words apart as they are stored, against the stretches.
use Rattle.std.proofs.Common.{◌≡◌, ◌≢◌, ℕ, zero, suc, ◌+◌, ◌-◌, ◌<◌, ◌≤◌, Bool, true, false, ◌||◌, leb, List, [], ◌∷◌, ◌++◌, drop, take, length, map, max, get_or, set, inl, inr, refl, sym, ap, subst, ◌∙◌, arith, get_or-set_other, get_or-set_same, length-set}
use Rattle.std.specs.List.{list_any}
use Rattle.std.specs.List.Sorted.{IsNonDecreasingBy, IsPermutation}
use Rattle.std.proofs.lemmas.Bool.{and_from, and_parts, cases_Bool, cases_eq, false≢true, cases_lt, le-leb, leb-false, leb-true}
use Rattle.std.proofs.Math.Seq.{take-length}
use Rattle.std.proofs.lemmas.List.{take-append-le}
use Rattle.std.proofs.lemmas.List.Sorted.{list_any-IsPermutation}
use Rattle.std.proofs.lemmas.List.Folds.{Any-from_list_any, list_any_at}
use Rattle.statement.specs.ApartParts.{AreReaches, AreSorted, are_reached, is_reached}
use Rattle.statement.specs.Stated.{is_apart}
use Rattle.statement.specs.declared.apart.ApartStretch.{ApartStretch}

-- two tests of which each follows from the other
same_tests : (a b : Bool) → (a ≡ true → b ≡ true) → (b ≡ true → a ≡ true) → a ≡ b
same_tests true b to back = sym (to refl)
same_tests false true to back = back refl
same_tests false false to back = refl

abbrev pub Pair : Type 0
Pair = ℕ × ℕ

-- ## The pairs of the stretches

abbrev pub pair_of : ApartStretch → Pair
pair_of s = (s.first, s.last)

pub same_apart :
    (stretches : List ApartStretch) (a : ℕ)
    → list_any (is_reached a) (map pair_of stretches) ≡ is_apart stretches a
same_apart [] a = refl
same_apart (s ∷ ss) a = ap (λ b. is_reached a (pair_of s) || b) (same_apart ss a)

-- ## A last address carried on

-- as far as the index: the pairs before it end where they are to, the last of them at the number
pub record IsCarried (old now : List Pair) (i top : ℕ) : Type 0 where
  pub firsts : IsNonDecreasingBy (λ r. r.0) now
  pub lasts : (j k : ℕ) (d : Pair) → j ≤ k → k < i → (get_or now j d).1 ≤ (get_or now k d).1
  pub last : (d : Pair) → 0 < i → (get_or now (i - 1) d).1 ≡ top
  pub none : i ≡ 0 → top ≡ 0
  pub same : (a : ℕ) → list_any (is_reached a) now ≡ list_any (is_reached a) old

pub none_carried : (old : List Pair) → IsNonDecreasingBy (λ (r : Pair). r.0) old → IsCarried old old 0 0
none_carried old up = record {
  firsts = up;
  lasts = λ j k d h low. absurd (omega arith);
  last = λ d low. absurd (omega arith);
  none = λ e. refl;
  same = λ a. refl;
}

module _ (old now : List Pair) (i top : ℕ) (x : Pair) (low : i < length now) (is : (d : Pair) → get_or now i d ≡ x) (h : IsCarried old now i top) where
  abbrev next : List Pair
  next = set now i (x.0, max x.1 top)

  at_index : (d : Pair) → get_or next i d ≡ (x.0, max x.1 top)
  at_index d = get_or-set_same now i (x.0, max x.1 top) d low

  elsewhere : (k : ℕ) (d : Pair) → k ≢ i → get_or next k d ≡ get_or now k d
  elsewhere k d ne = get_or-set_other now i k (x.0, max x.1 top) d ne

  -- the first parts are what they were
  same_first : (k : ℕ) (d : Pair) → (get_or next k d).0 ≡ (get_or now k d).0
  same_first k d = elim (cases_eq k i) [
    | inl e ↦ subst (λ (n : ℕ). (get_or next n d).0 ≡ (get_or now n d).0) (sym e) (ap (λ (r : Pair). r.0) (at_index d) ∙ sym (ap (λ (r : Pair). r.0) (is d)))
    | inr ne ↦ ap (λ (r : Pair). r.0) (elsewhere k d ne)
  ]

  -- no last address before the index is past the number
  below : (k : ℕ) (d : Pair) → k < i → (get_or now k d).1 ≤ top
  below k d lt =
      let far : (get_or now k d).1 ≤ (get_or now (i - 1) d).1 = h.lasts k (i - 1) d (omega arith) (omega arith) in
      let at : (get_or now (i - 1) d).1 ≡ top = h.last d (omega arith) in
      omega arith

  last_next : (d : Pair) → (get_or next i d).1 ≡ max x.1 top
  last_next d = ap (λ (r : Pair). r.1) (at_index d)

  lasts_next : (j k : ℕ) (d : Pair) → j ≤ k → k < i + 1 → (get_or next j d).1 ≤ (get_or next k d).1
  lasts_next j k d le lt = elim (cases_eq j i) [
    | inl at ↦ let same : j ≡ k = omega arith in subst (λ (n : ℕ). (get_or next j d).1 ≤ (get_or next n d).1) same (omega arith)
    | inr before ↦ elim (cases_eq k i) [
      | inl at ↦
          let front : (get_or next j d).1 ≡ (get_or now j d).1 = ap (λ (r : Pair). r.1) (elsewhere j d before) in
          let under : (get_or now j d).1 ≤ top = below j d (omega arith) in
          let last : (get_or next k d).1 ≡ max x.1 top = subst (λ (n : ℕ). (get_or next n d).1 ≡ max x.1 top) (sym at) (last_next d) in
          omega arith
      | inr low ↦
          let front : (get_or next j d).1 ≡ (get_or now j d).1 = ap (λ (r : Pair). r.1) (elsewhere j d before) in
          let back : (get_or next k d).1 ≡ (get_or now k d).1 = ap (λ (r : Pair). r.1) (elsewhere k d low) in
          let up : (get_or now j d).1 ≤ (get_or now k d).1 = h.lasts j k d le (omega arith) in
          omega arith
    ]
  ]

  -- an address that a pair has
  reached_at : (now : List Pair) (a k : ℕ) (d : Pair) → k < length now → (get_or now k d).0 ≤ a → a ≤ (get_or now k d).1 → list_any (is_reached a) now ≡ true
  reached_at now a k d lt from to = list_any_at (is_reached a) now k d lt (and_from _ _ (le-leb _ _ from) (le-leb _ _ to))

  module _ (a : ℕ) where
    more : list_any (is_reached a) now ≡ true → list_any (is_reached a) next ≡ true
    more e =
        let u = Any-from_list_any (is_reached a) now e in
        let k = u.0 in
        let d = u.1 in
        let parts = and_parts (leb d.0 a) (leb a d.1) u.4 in
        let from : d.0 ≤ a = leb-true d.0 a parts.0 in
        let to : a ≤ d.1 = leb-true a d.1 parts.1 in
        let lt : k < length next = subst (λ (n : ℕ). k < n) (sym (length-set now i (x.0, max x.1 top))) u.2 in
        elim (cases_eq k i) [
          | inl at ↦
              let here : x ≡ d = sym (is d) ∙ subst (λ (n : ℕ). get_or now n d ≡ d) at u.3 in
              let first : x.0 ≡ d.0 = ap (λ (r : Pair). r.0) here in
              let last : x.1 ≡ d.1 = ap (λ (r : Pair). r.1) here in
              reached_at next a i d (subst (λ (n : ℕ). n < length next) at lt)
              (subst (λ (r : Pair). r.0 ≤ a) (sym (at_index d)) (omega arith))
              (subst (λ (r : Pair). a ≤ r.1) (sym (at_index d)) (omega arith))
          | inr ne ↦
              let same : get_or next k d ≡ d = elsewhere k d ne ∙ u.3 in
              reached_at next a k d lt (subst (λ (r : Pair). r.0 ≤ a) (sym same) from) (subst (λ (r : Pair). a ≤ r.1) (sym same) to)
        ]

    -- what the carried number reaches, the pair before reached
    carried : (d : Pair) → x.0 ≤ a → a ≤ max x.1 top → list_any (is_reached a) now ≡ true
    carried d from to = elim (cases_Bool (leb a x.1)) [
      | inl within ↦ reached_at now a i d low (subst (λ (r : Pair). r.0 ≤ a) (sym (is d)) from) (subst (λ (r : Pair). a ≤ r.1) (sym (is d)) (leb-true a x.1 within))
      | inr past ↦
          let over : x.1 < a = leb-false a x.1 past in
          let some : i ≢ 0 = λ e. let none : top ≡ 0 = h.none e in omega arith in
          let up : (get_or now (i - 1) d).0 ≤ (get_or now i d).0 = h.firsts (i - 1) i d (omega arith) low in
          let here : (get_or now i d).0 ≡ x.0 = ap (λ (r : Pair). r.0) (is d) in
          let top_is : (get_or now (i - 1) d).1 ≡ top = h.last d (omega arith) in
          reached_at now a (i - 1) d (omega arith) (omega arith) (omega arith)
    ]

    fewer : list_any (is_reached a) next ≡ true → list_any (is_reached a) now ≡ true
    fewer e =
        let u = Any-from_list_any (is_reached a) next e in
        let k = u.0 in
        let d = u.1 in
        let parts = and_parts (leb d.0 a) (leb a d.1) u.4 in
        let from : d.0 ≤ a = leb-true d.0 a parts.0 in
        let to : a ≤ d.1 = leb-true a d.1 parts.1 in
        let lt : k < length now = subst (λ (n : ℕ). k < n) (length-set now i (x.0, max x.1 top)) u.2 in
        elim (cases_eq k i) [
          | inl at ↦
              let here : (x.0, max x.1 top) ≡ d = sym (at_index d) ∙ subst (λ (n : ℕ). get_or next n d ≡ d) at u.3 in
              carried d (subst (λ (r : Pair). r.0 ≤ a) (sym here) from) (subst (λ (r : Pair). a ≤ r.1) (sym here) to)
          | inr ne ↦
              let same : get_or now k d ≡ d = sym (elsewhere k d ne) ∙ u.3 in
              reached_at now a k d lt (subst (λ (r : Pair). r.0 ≤ a) (sym same) from) (subst (λ (r : Pair). a ≤ r.1) (sym same) to)
        ]

  pub carried_more : IsCarried old next (i + 1) (max x.1 top)
  carried_more = record {
    firsts = λ j k d le lt.
        let old_low : k < length now = subst (λ (n : ℕ). k < n) (length-set now i (x.0, max x.1 top)) lt in
        let up : (get_or now j d).0 ≤ (get_or now k d).0 = h.firsts j k d le old_low in
        let one : (get_or next j d).0 ≡ (get_or now j d).0 = same_first j d in
        let two : (get_or next k d).0 ≡ (get_or now k d).0 = same_first k d in
        omega arith;
    lasts = lasts_next;
    last = λ d some. let e : i + 1 - 1 ≡ i = omega arith in subst (λ (n : ℕ). (get_or next n d).1 ≡ max x.1 top) (sym e) (last_next d);
    none = λ e. absurd (omega arith);
    same = λ a. same_tests _ _ (fewer a) (more a) ∙ h.same a;
  }

pub all_carried : (old now : List Pair) (i top : ℕ) → length now ≤ i → IsCarried old now i top → AreReaches (are_reached old) now
all_carried old now i top past h = record {
  firsts = h.firsts;
  lasts = λ j k d le lt. h.lasts j k d le (omega arith);
  same = h.same;
}

-- ## An address among them

module _ (stretches : List ApartStretch) (reaches : List Pair) (a begun : ℕ) (few : begun ≤ length reaches) (h : AreReaches (is_apart stretches) reaches) (before : (k : ℕ) (d : Pair) → k < begun → leb (get_or reaches k d).0 a ≡ true) (after : (k : ℕ) (d : Pair) → begun ≤ k → k < length reaches → leb (get_or reaches k d).0 a ≡ false) where
  -- one that has it begins no later
  one_before : list_any (is_reached a) reaches ≡ true → (k : ℕ) × (d : Pair) × (k < begun) × (a ≤ (get_or reaches k d).1)
  one_before e =
      let u = Any-from_list_any (is_reached a) reaches e in
      let k = u.0 in
      let d = u.1 in
      let parts = and_parts (leb d.0 a) (leb a d.1) u.4 in
      elim (cases_lt k begun) [
        | inl low ↦ (k, d, low, subst (λ (r : Pair). a ≤ r.1) (sym u.3) (leb-true a d.1 parts.1))
        | inr past ↦ absurd (false≢true (sym (after k d past u.2) ∙ subst (λ (r : Pair). leb r.0 a ≡ true) (sym u.3) parts.0))
      ]

  pub none_begun : begun ≡ 0 → false ≡ is_apart stretches a
  none_begun none =
      same_tests false (list_any (is_reached a) reaches) (λ e. absurd (false≢true e)) (λ e. let u = one_before e in let low = u.2 in absurd (omega arith)) ∙ h.same a

  pub some_begun : (x : Pair) → ((d : Pair) → get_or reaches (begun - 1) d ≡ x) → begun ≢ 0 → leb a x.1 ≡ is_apart stretches a
  some_begun x is some =
      same_tests (leb a x.1) (list_any (is_reached a) reaches) to back ∙ h.same a
    where
      to : leb a x.1 ≡ true → list_any (is_reached a) reaches ≡ true
      to e =
          list_any_at (is_reached a) reaches (begun - 1) x (omega arith)
          (and_from _ _ (before (begun - 1) x (omega arith)) (subst (λ (r : Pair). leb a r.1 ≡ true) (sym (is x)) e))

      back : list_any (is_reached a) reaches ≡ true → leb a x.1 ≡ true
      back e =
          let u = one_before e in
          let low = u.2 in
          let far = u.3 in
          let up : (get_or reaches u.0 u.1).1 ≤ (get_or reaches (begun - 1) u.1).1 = h.lasts u.0 (begun - 1) u.1 (omega arith) (omega arith) in
          let at : (get_or reaches (begun - 1) u.1).1 ≡ x.1 = ap (λ (r : Pair). r.1) (is u.1) in
          le-leb a x.1 (omega arith)

-- ## As they are read

-- an element is the same by any default
pub at_any : (xs : List Pair) (i : ℕ) (d e : Pair) → i < length xs → get_or xs i d ≡ get_or xs i e
at_any [] i d e low = absurd (omega arith)
at_any (x ∷ xs) zero d e low = refl
at_any (x ∷ xs) (suc i) d e low = at_any xs i d e (omega arith)

pub sorted_from :
    (stretches : List ApartStretch) (pairs reaches : List Pair)
    → pairs ≡ map pair_of stretches
    → IsPermutation pairs reaches
    → IsNonDecreasingBy (λ (r : Pair). r.0) reaches
    → AreSorted stretches reaches
sorted_from stretches pairs reaches is moved up = record {
  firsts = up;
  same = λ a.
      sym (list_any-IsPermutation (is_reached a) pairs reaches moved)
      ∙ ap (list_any (is_reached a)) is
      ∙ same_apart stretches a;
}

-- pairs that were lent, carried on and written back
module _ (stretches given : List ApartStretch) (old lent new : List Pair) (n : ℕ) where
  pub reaches_made :
      given ≡ stretches
      → lent ≡ old
      → length new ≡ length lent
      → n ≡ length old
      → AreSorted given old
      → AreReaches (are_reached lent) new
      → AreReaches (is_apart stretches) (take n (new ++ drop (length new) old))
  reaches_made is same size len h k =
      let whole : n ≡ length new = len ∙ sym (ap (λ (xs : List Pair). length xs) same) ∙ sym size in
      let back : take n (new ++ drop (length new) old) ≡ new =
      take-append-le n new (drop (length new) old) (omega arith) ∙ ap (λ (m : ℕ). take m new) whole ∙ take-length new in
      subst (AreReaches (is_apart stretches)) (sym back) (record {
        firsts = k.firsts;
        lasts = k.lasts;
        same = λ a. k.same a ∙ ap (list_any (is_reached a)) same ∙ h.same a ∙ ap (λ s. is_apart s a) is;
      })
