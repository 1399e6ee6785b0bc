-- Stretches by their last addresses.
use Rattle.std.proofs.Common.{◌≡◌, ◌⊎◌, ◌↔◌, ◌<◌, ◌≤◌, ◌++◌, ℕ, zero, suc, Bool, true, false, ◌&&◌, cond, not, eqb, leb, ltb, max, min, List, [], ◌∷◌, length, get_or, take, Option, Some, None, Result, Ok, Err, ◌+◌, MatchOption, Ordering, inl, inr, refl, sym, ap, subst, ◌∙◌, arith, option_map}
use Rattle.std.specs.Prelude.{find, if◌then◌else◌, is_some, AllPairs, IfSome, IsSome, OnOk, ⊤}
use Rattle.std.specs.BTreeMap.Range.{IsEntryInRange, IsRangeOf}
use Rattle.std.specs.declared.ops.Bound.TheVariants.{Included, Unbounded}
use Rattle.std.specs.BTreeMap.{BTreeMap, Updates}
use Rattle.std.specs.Cmp.Derive.{both_true}
use Rattle.std.specs.List.{list_any, position, position_or_len, slice_get}
use Rattle.std.specs.Ordering.{is_eq, is_gt, nat_cmp, ordering_then}
use Rattle.std.specs.declared.cmp.Ordering.TheVariants.{Less, Equal, Greater}
use Rattle.std.proofs.Math.Bool.{or-true}
use Rattle.std.proofs.lemmas.Bool.{and_parts, cases_Bool, eq-eqb, eqb-true, false_from_ne_true, false≢true, le-leb, leb-true, lt-ltb, ltb-false, ltb-true, true≢false}
use Rattle.std.proofs.lemmas.Cmp.{ranked}
use Rattle.std.proofs.lemmas.List.{get_or-take, length-append, length-take-le}
use Rattle.std.proofs.lemmas.List.Folds.{find_at, position_or_len_push}
use Rattle.std.proofs.lemmas.List.Quantifiers.{all_pairs_push, position-Some}
use Rattle.std.proofs.lemmas.List.Sums.{fails_before_first, prefix_len-le-length}
use Rattle.std.specs.Map.{lookup}
use Rattle.std.proofs.lemmas.Option.{none-some, same_Some, slice_get-get_or, slice_get_past}
use Rattle.arm2_decode.specs.Names.{register_number}
use Rattle.arm2_decode.specs.declared.names.Register.{Register}
use Rattle.statement.specs.PlaceTests.{holds_of, is_covered, was_met}
use Rattle.statement.specs.Stretches.{AreDisjoint, AreOf, Gives, IsCovered, IsJoined, IsMet, IsNextFrom, ending, is_for, is_within, meets, number_for, pair_cmp}
use Rattle.statement.specs.declared.stated.BaseRule.{BaseRule}
use Rattle.statement.specs.declared.stretches.Stretch.{Stretch}
use Rattle.statement.specs.Stated.{ShareNoWord, is_ruled, ruled_class}
use Rattle.statement.specs.Statement.{are_disjoint}
use Rattle.statement.proofs.MeetLemmas.{apart_is, between, part_of}
use Rattle.statement.proofs.RepeatLemmas.{or_is, same_test}

-- ## The order of pairs

abbrev pub IsUpTo : ℕ × ℕ → ℕ × ℕ → Type 0
IsUpTo x y = (x.0 < y.0) ⊎ ((x.0 ≡ y.0) × (x.1 ≤ y.1))

up_to_by :
    (x y : ℕ × ℕ) (o p : Ordering)
    → o ≡ nat_cmp x.0 y.0
    → p ≡ nat_cmp x.1 y.1
    → is_gt (ordering_then o p) ≡ false ↔ IsUpTo x y
up_to_by x y Less p is also = (λ e. inl (ranked x.0 y.0 Less is), λ h. refl)
up_to_by x y Equal Less is also =
    let low = ranked x.1 y.1 Less also in (λ e. inr (ranked x.0 y.0 Equal is, omega arith), λ h. refl)
up_to_by x y Equal Equal is also =
    let low = ranked x.1 y.1 Equal also in (λ e. inr (ranked x.0 y.0 Equal is, omega arith), λ h. refl)
up_to_by x y Equal Greater is also = (
  λ e. absurd (true≢false e),
  λ h.
      let same = ranked x.0 y.0 Equal is in
      let high = ranked x.1 y.1 Greater also in
      elim h [ inl less ↦ absurd (omega arith) | inr at ↦ let low = at.1 in absurd (omega arith) ],
)
up_to_by x y Greater p is also = (
  λ e. absurd (true≢false e),
  λ h.
      let high = ranked x.0 y.0 Greater is in
      elim h [ inl less ↦ absurd (omega arith) | inr at ↦ let same = at.0 in absurd (omega arith) ],
)

pub up_to_is : (x y : ℕ × ℕ) → is_gt (pair_cmp x y) ≡ false ↔ IsUpTo x y
up_to_is x y = up_to_by x y (nat_cmp x.0 y.0) (nat_cmp x.1 y.1) refl refl

same_by :
    (x y : ℕ × ℕ) (o p : Ordering)
    → o ≡ nat_cmp x.0 y.0
    → p ≡ nat_cmp x.1 y.1
    → is_eq (ordering_then o p) ≡ true
    → (x.0 ≡ y.0) × (x.1 ≡ y.1)
same_by x y Less p is also e = absurd (false≢true e)
same_by x y Equal Less is also e = absurd (false≢true e)
same_by x y Equal Equal is also e = (ranked x.0 y.0 Equal is, ranked x.1 y.1 Equal also)
same_by x y Equal Greater is also e = absurd (false≢true e)
same_by x y Greater p is also e = absurd (false≢true e)

same_pair : (x y : ℕ × ℕ) → is_eq (pair_cmp x y) ≡ true → (x.0 ≡ y.0) × (x.1 ≡ y.1)
same_pair x y e = same_by x y (nat_cmp x.0 y.0) (nat_cmp x.1 y.1) refl refl e

abbrev AreSame : ℕ → ℕ → ℕ → ℕ → Type 0
AreSame base last b l = (b ≡ base) × (l ≡ last)

same_or_other : (base last b l : ℕ) → AreSame base last b l ⊎ (¬ AreSame base last b l)
same_or_other base last b l = elim (cases_Bool (eqb b base && eqb l last)) [
  | inl e ↦ let h = and_parts (eqb b base) (eqb l last) e in inl (eqb-true b base h.0, eqb-true l last h.1)
  | inr e ↦ inr (λ h. false≢true (sym e ∙ both_true (eq-eqb b base h.0) (eq-eqb l last h.1)))
]

-- ## Numbers

not_le : (a c : ℕ) → (¬ (a ≤ c)) → c < a
not_le a c h = omega (arith, h)

-- ## Stretches

within_is : (b a : ℕ) (p : Stretch) → is_within b a p ≡ true ↔ ((register_number p.base ≡ b) × (p.first ≤ a) × (a ≤ p.last))
within_is b a p = (
  λ e. let h = and_parts (eqb (register_number p.base) b) (leb p.first a && leb a p.last) e in
      let low = (between p.first p.last a).0 h.1 in
      (eqb-true (register_number p.base) b h.0, low.0, low.1),
  λ h. both_true (eq-eqb (register_number p.base) b h.0) ((between p.first p.last a).1 (h.1, h.2)),
)

module _ {T : Type 0} where
  -- ## One entry that is put in or taken out

  -- the stretch that ends at an address was replaced
  pub record IsPut (m n : BTreeMap (ℕ × ℕ) (ℕ × T)) (base last : ℕ) (v : Option (ℕ × T)) : Type 0 where
    pub here : ending n base last ≡ v
    pub elsewhere : (b l : ℕ) → ¬ AreSame base last b l → ending n b l ≡ ending m b l

  pub put : (m n : BTreeMap (ℕ × ℕ) (ℕ × T)) (base last : ℕ) (v : Option (ℕ × T)) → Updates pair_cmp m n (base, last) v → IsPut m n base last v
  put m n base last v u = record {
    here = u.1;
    elsewhere = λ b l other. u.2 (b, l) (false_from_ne_true (is_eq (pair_cmp (base, last) (b, l))) (λ e. let h = same_pair (base, last) (b, l) e in other (sym h.0, sym h.1)));
  }

  -- ## The next stretch

  some_or_none : (o : Option (ℕ × T)) → ((v : ℕ × T) × (o ≡ Some v)) ⊎ (o ≡ None)
  some_or_none None = inr refl
  some_or_none (Some v) = inl (v, refl)

  some_is : (o : Option (ℕ × T)) (v : ℕ × T) → o ≡ Some v → IsSome o
  some_is o v e = rw e refl

  -- what a range from an address on begins with
  module _ (m : BTreeMap (ℕ × ℕ) (ℕ × T)) (base a : ℕ) (r : List ((ℕ × ℕ) × (ℕ × T))) (range : IsRangeOf pair_cmp (Included (base, a)) Unbounded m r) where
    module _ (key : ℕ × ℕ) (v : ℕ × T) (rest : List ((ℕ × ℕ) × (ℕ × T))) (is : r ≡ (key, v) ∷ rest) where
      first_up : IsUpTo (base, a) key
      first_up =
          (up_to_is (base, a) key).0 (subst (λ es. IfSome (slice_get es 0) (IsEntryInRange pair_cmp (Included (base, a)) Unbounded m)) is range.1).0.0

      first_held : ending m key.0 key.1 ≡ Some v
      first_held =
          (subst (λ es. IfSome (slice_get es 0) (IsEntryInRange pair_cmp (Included (base, a)) Unbounded m)) is range.1).1

      first_least : (last : ℕ) → a ≤ last → IsSome (ending m base last) → IsUpTo key (base, last)
      first_least last low some =
          (up_to_is key (base, last)).0 (subst (λ es. IfSome (slice_get es 0) (λ e. is_gt (pair_cmp e.0 (base, last)) ≡ false)) is (range.2 (base, last) ((up_to_is (base, a) (base, last)).1 (inr (refl, low)), tt) some))

      pub range_first : key.0 ≡ base → IsNextFrom m base a (Some (key.1, v))
      range_first same = (
        subst (λ (b : ℕ). ending m b key.1 ≡ Some v) same first_held,
        elim first_up [ inl less ↦ absurd (omega arith) | inr at ↦ at.1 ],
        λ last low some. elim (first_least last low some) [ inl less ↦ absurd (omega arith) | inr at ↦ at.1 ],
      )

      pub range_other : (key.0 ≡ base → ⊥) → IsNextFrom m base a None
      range_other other last low = elim (some_or_none (ending m base last)) [
        | inl some ↦ absurd (other (same last low (some_is (ending m base last) some.0 some.1)))
        | inr none ↦ none
      ]
        where
          same : (last : ℕ) → a ≤ last → IsSome (ending m base last) → key.0 ≡ base
          same last low some = elim first_up [
            | inl less ↦ elim (first_least last low some) [ inl more ↦ absurd (omega arith) | inr at ↦ at.0 ]
            | inr at ↦ sym at.0
          ]

    pub range_none : r ≡ [] → IsNextFrom m base a None
    range_none is last low = range.5 is (base, last) ((up_to_is (base, a) (base, last)).1 (inr (refl, low)), tt)

  module _ (m : BTreeMap (ℕ × ℕ) (ℕ × T)) (p : Stretch) where
    abbrev IsNext : Option (ℕ × (ℕ × T)) → Type 0
    IsNext next = IsNextFrom m (register_number p.base) p.first next

    pub none_met : (next : Option (ℕ × (ℕ × T))) → next ≡ None → IsNext next → (s : ℕ × (ℕ × T)) → ¬ IsMet m p s
    none_met next is h s met =
        let none = subst IsNext is h in
        none-some s.1 (sym (none s.0 met.ends) ∙ met.held)

    pub next_met :
        (next : Option (ℕ × (ℕ × T))) (s : ℕ × (ℕ × T)) → next ≡ Some s → IsNext next → s.1.0 ≤ p.last → IsMet m p s
    next_met next s is h low = let at = subst IsNext is h in record { held = at.0; begins = low; ends = at.1 }

    pub late_met :
        (next : Option (ℕ × (ℕ × T))) (s : ℕ × (ℕ × T))
        → AreDisjoint m
        → next ≡ Some s
        → IsNext next
        → p.last < s.1.0
        → (t : ℕ × (ℕ × T)) → ¬ IsMet m p t
    late_met next s apart is h late t met =
        let at = subst IsNext is h in
        let up = at.2 t.0 met.ends (some_is (ending m (register_number p.base) t.0) t.1 met.held) in
        let begins = met.begins in
        let ordered = apart.ordered (register_number p.base) s.0 s.1 at.0 in
        elim (cases_Bool (eqb s.0 t.0)) [
          | inl e ↦
              let same = eqb-true s.0 t.0 e in
              let value = same_Some s.1 t.1 (sym at.0 ∙ ap (ending m (register_number p.base)) same ∙ met.held) in
              let first : s.1.0 ≡ t.1.0 = ap (λ v. v.0) value in
              omega arith
          | inr e ↦
              let less = not_same s.0 t.0 e in
              let later = apart.apart (register_number p.base) s.0 t.0 s.1 t.1 at.0 met.held (omega arith) in
              omega arith
        ]
      where
        not_same : (a b : ℕ) → eqb a b ≡ false → (a ≡ b → ⊥)
        not_same a b e h = false≢true (sym e ∙ eq-eqb a b h)

  -- ## One more stretch

  -- a stretch that has an address of another is met by it
  pub gives_met : (m : BTreeMap (ℕ × ℕ) (ℕ × T)) (p : Stretch) (b a : ℕ) (v : T) → Gives m b a v → is_within b a p ≡ true → (s : ℕ × (ℕ × T)) × IsMet m p s
  gives_met m p b a v g e =
      let h = (within_is b a p).0 e in
      let from_first = g.from_first in let to_last = g.to_last in let low = h.1 in let high = h.2 in (
        (g.last, (g.first, v)),
        record {
          held = subst (λ (base : ℕ). ending m base g.last ≡ Some (g.first, v)) (sym h.0) g.held;
          begins = omega arith;
          ends = omega arith;
        },
      )

  -- one that is met has an address of it
  pub met_gives :
      (m : BTreeMap (ℕ × ℕ) (ℕ × T)) (p : Stretch) (s : ℕ × (ℕ × T))
      → AreDisjoint m
      → p.first ≤ p.last
      → IsMet m p s
      → (a : ℕ) × Gives m (register_number p.base) a s.1.1 × (is_within (register_number p.base) a p ≡ true)
  met_gives m p s apart ordered met =
      let begins = met.begins in let ends = met.ends in
      let own = apart.ordered (register_number p.base) s.0 s.1 met.held in (
        max p.first s.1.0,
        record { first = s.1.0; last = s.0; held = met.held; from_first = omega arith; to_last = omega arith },
        (within_is (register_number p.base) (max p.first s.1.0) p).1 (refl, omega arith, omega arith),
      )

  module _
      (m n : BTreeMap (ℕ × ℕ) (ℕ × T))
      (p : Stretch)
      (v : T)
      (apart : AreDisjoint m)
      (ordered : p.first ≤ p.last)
      (alone : (s : ℕ × (ℕ × T)) → ¬ IsMet m p s)
      (is_put : IsPut m n (register_number p.base) p.last (Some (p.first, v))) where
    abbrev own_base : ℕ
    own_base = register_number p.base

    value_here : (b l : ℕ) (w : ℕ × T) → AreSame own_base p.last b l → ending n b l ≡ Some w → w ≡ (p.first, v)
    value_here b l w same e =
        let at : ending n own_base p.last ≡ Some w = subst (λ (k : ℕ). ending n own_base k ≡ Some w) same.1 (subst (λ (k : ℕ). ending n k l ≡ Some w) same.0 e) in
        same_Some w (p.first, v) (sym at ∙ is_put.here)

    value_there : (b l : ℕ) (w : ℕ × T) → ¬ AreSame own_base p.last b l → ending n b l ≡ Some w → ending m b l ≡ Some w
    value_there b l w other e = sym (is_put.elsewhere b l other) ∙ e

    met_at : (b l : ℕ) (w : ℕ × T) → b ≡ own_base → ending m b l ≡ Some w → w.0 ≤ p.last → p.first ≤ l → ⊥
    met_at b l w same e begins ends =
        alone (l, w) (record { held = subst (λ (k : ℕ). ending m k l ≡ Some w) same e; begins = begins; ends = ends })

    put_ordered : (b l : ℕ) (w : ℕ × T) → ending n b l ≡ Some w → w.0 ≤ l
    put_ordered b l w e = elim (same_or_other own_base p.last b l) [
      | inl same ↦
          let first : w.0 ≡ p.first = ap (λ x. x.0) (value_here b l w same e) in
          let last = same.1 in
          omega arith
      | inr other ↦ apart.ordered b l w (value_there b l w other e)
    ]

    -- not both are the new one
    put_apart :
        (b l later : ℕ) (w x : ℕ × T)
        → ending n b l ≡ Some w
        → ending n b later ≡ Some x
        → l < later
        → l < x.0
    put_apart b l later w x e f less = elim (same_or_other own_base p.last b l) [
      | inl same ↦ elim (same_or_other own_base p.last b later) [
        | inl twice ↦ let at = same.1 in let again = twice.1 in absurd (omega arith)
        | inr other ↦
            let there = value_there b later x other f in
            let at = same.1 in
            not_le x.0 l (λ low. met_at b later x same.0 there (omega arith) (omega arith))
      ]
      | inr other ↦ elim (same_or_other own_base p.last b later) [
        | inl same ↦
            let first : x.0 ≡ p.first = ap (λ y. y.0) (value_here b later x same f) in
            let there = value_there b l w other e in
            let own = apart.ordered b l w there in
            let at = same.1 in
            not_le x.0 l (λ low. met_at b l w same.0 there (omega arith) (omega arith))
        | inr both ↦ apart.apart b l later w x (value_there b l w other e) (value_there b later x both f) less
      ]
    ]

    pub put_disjoint : AreDisjoint n
    put_disjoint = record { ordered = put_ordered; apart = put_apart }

    -- it gives what it gave, and the new stretch's value
    pub put_gives : (b a : ℕ) (w : T) → Gives n b a w ↔ (Gives m b a w ⊎ ((is_within b a p ≡ true) × (v ≡ w)))
    put_gives b a w = (
      λ g. elim (same_or_other own_base p.last b g.last) [
        | inl same ↦
            let value = value_here b g.last (g.first, w) same g.held in
            let first : g.first ≡ p.first = ap (λ x. x.0) value in
            let last = same.1 in
            let from_first = g.from_first in
            let to_last = g.to_last in
            inr ((within_is b a p).1 (sym same.0, omega arith, omega arith), sym (ap (λ x. x.1) value))
        | inr other ↦ inl (record { first = g.first; last = g.last; held = value_there b g.last (g.first, w) other g.held; from_first = g.from_first; to_last = g.to_last })
      ],
      λ h. elim h [
        | inl g ↦ elim (same_or_other own_base p.last b g.last) [
          | inl same ↦
              let own = apart.ordered b g.last (g.first, w) g.held in
              let at = same.1 in
              absurd (met_at b g.last (g.first, w) same.0 g.held (omega arith) (omega arith))
          | inr other ↦ record { first = g.first; last = g.last; held = is_put.elsewhere b g.last other ∙ g.held; from_first = g.from_first; to_last = g.to_last }
        ]
        | inr new ↦
            let at = (within_is b a p).0 new.0 in
            record {
              first = p.first;
              last = p.last;
              held = subst (λ (k : ℕ). ending n k p.last ≡ Some (p.first, w)) at.0 (is_put.here ∙ ap (λ x. Some (p.first, x)) new.1);
              from_first = at.1;
              to_last = at.2;
            }
      ],
    )

    -- so it is of the function that has the new value too
    pub put_of :
        (f g : ℕ → ℕ → Option T)
        → AreOf m f
        → ((b a : ℕ) (w : T) → g b a ≡ Some w ↔ ((f b a ≡ Some w) ⊎ ((is_within b a p ≡ true) × (v ≡ w))))
        → AreOf n g
    put_of f g of more = record {
      disjoint = put_disjoint;
      same = λ b a w. (
        λ e. elim ((put_gives b a w).0 e) [
          | inl was ↦ (more b a w).1 (inl ((of.same b a w).0 was))
          | inr new ↦ (more b a w).1 (inr new)
        ],
        λ e. elim ((more b a w).0 e) [
          | inl was ↦ (put_gives b a w).1 (inl ((of.same b a w).1 was))
          | inr new ↦ (put_gives b a w).1 (inr new)
        ],
      );
    }

  -- ## The value at an address

  pub value_met :
      (m : BTreeMap (ℕ × ℕ) (ℕ × T)) (f : ℕ → ℕ → Option T) (p : Stretch) (a : ℕ) (s : ℕ × (ℕ × T))
      → AreOf m f
      → p.first ≡ a
      → p.last ≡ a
      → IsMet m p s
      → Some s.1.1 ≡ f (register_number p.base) a
  value_met m f p a s of is_first is_last met =
      let begins = met.begins in let ends = met.ends in
      sym ((of.same (register_number p.base) a s.1.1).0 (record { first = s.1.0; last = s.0; held = met.held; from_first = omega arith; to_last = omega arith }))

  pub value_unmet :
      (m : BTreeMap (ℕ × ℕ) (ℕ × T)) (f : ℕ → ℕ → Option T) (p : Stretch) (a : ℕ)
      → AreOf m f
      → p.first ≡ a
      → p.last ≡ a
      → ((s : ℕ × (ℕ × T)) → ¬ IsMet m p s)
      → None ≡ f (register_number p.base) a
  value_unmet m f p a of is_first is_last alone = by_value (f (register_number p.base) a) refl
    where
      by_value : (o : Option T) → f (register_number p.base) a ≡ o → None ≡ f (register_number p.base) a
      by_value None e = sym e
      by_value (Some v) e =
          let g = (of.same (register_number p.base) a v).1 e in
          let met = gives_met m p (register_number p.base) a v g ((within_is (register_number p.base) a p).1 (refl, omega arith, omega arith)) in
          absurd (alone met.0 met.1)

-- ## What is found

module _ {T : Type 0} (o : Option (ℕ × (ℕ × T))) (m : BTreeMap (ℕ × ℕ) (ℕ × T)) (p : Stretch) where
  abbrev IsFound : Option (ℕ × (ℕ × T)) → Type 0
  IsFound q = MatchOption q ((s : ℕ × (ℕ × T)) → ¬ IsMet m p s) (IsMet m p)

  found_by : (q : Option (ℕ × (ℕ × T))) → IsFound q → is_some q ≡ true → (s : ℕ × (ℕ × T)) × IsMet m p s
  found_by None h e = absurd (false≢true e)
  found_by (Some s) h e = (s, h)

  none_by : (q : Option (ℕ × (ℕ × T))) → IsFound q → is_some q ≡ false → (s : ℕ × (ℕ × T)) → ¬ IsMet m p s
  none_by None h e = h
  none_by (Some s) h e = absurd (true≢false e)

  pub found_met : {b : Bool} → IsFound o → b ≡ is_some o → b ≡ true → (s : ℕ × (ℕ × T)) × IsMet m p s
  found_met h is e = found_by o h (sym is ∙ e)

  pub none_found : {b : Bool} → IsFound o → b ≡ is_some o → b ≡ false → (s : ℕ × (ℕ × T)) → ¬ IsMet m p s
  none_found h is e = none_by o h (sym is ∙ e)

pub removed_less : {A : Type 0} (less more : ℕ) (o : Option A) (v : A) → o ≡ Some v → less + (if is_some o then 1 else 0) ≡ more → less < more
removed_less less more None v is e = absurd (none-some v is)
removed_less less more (Some w) v is e = omega (arith, e)

pub if_done : {A E S T : Type 0} (r : Result A E) → (S → T) → OnOk r S → OnOk r T
if_done (Ok a) f h = f h
if_done (Err e) f h = h

-- ## Stretches that are joined

module _ (old m n : BTreeMap (ℕ × ℕ) (ℕ × ⊤)) (p whole next : Stretch) (s : ℕ × (ℕ × ⊤)) where
  -- one that is met is taken out, and the whole has its addresses
  pub joined_more :
      IsJoined old p m whole
      → IsMet m whole s
      → IsPut m n (register_number whole.base) s.0 None
      → next.base ≡ whole.base
      → next.first ≡ min whole.first s.1.0
      → next.last ≡ max whole.last s.0
      → IsJoined old p n next
  joined_more joined met is_put same_base is_first is_last = record {
    disjoint = record {
      ordered = λ b l v e. joined.disjoint.ordered b l v (was b l v e);
      apart = λ b l later v w e f less. joined.disjoint.apart b l later v w (was b l v e) (was b later w f) less;
    };
    ordered = let low = joined.ordered in omega arith;
    same = λ b a. (λ h. (joined.same b a).0 (to_whole b a h), λ h. of_whole b a ((joined.same b a).1 h));
  }
    where
      was : (b l : ℕ) (v : ℕ × ⊤) → ending n b l ≡ Some v → ending m b l ≡ Some v
      was b l v e = elim (same_or_other (register_number whole.base) s.0 b l) [
        | inl same ↦ absurd (none-some v (sym is_put.here ∙ subst (λ (k : ℕ). ending n (register_number whole.base) k ≡ Some v) same.1 (subst (λ (k : ℕ). ending n k l ≡ Some v) same.0 e)))
        | inr other ↦ sym (is_put.elsewhere b l other) ∙ e
      ]

      besides : (x c : ℕ) → (c < x → ⊥) → x ≤ c
      besides x c never = elim (cases_Bool (leb x c)) [
        | inl e ↦ leb-true x c e
        | inr e ↦ absurd (never (not_le x c (λ h. false≢true (sym e ∙ le-leb x c h))))
      ]

      at_least : (a : ℕ) → next.first ≤ a → a < s.1.0 → whole.first ≤ a
      at_least a low less = omega (arith, is_first)

      at_most : (a : ℕ) → a ≤ next.last → s.0 < a → a ≤ whole.last
      at_most a high less = omega (arith, is_last)

      number_same : register_number next.base ≡ register_number whole.base
      number_same = ap register_number same_base

      in_whole : (b a : ℕ) → register_number next.base ≡ b → next.first ≤ a → a ≤ next.last → (test : Bool) → test ≡ is_within b a whole → Gives m b a tt ⊎ (is_within b a whole ≡ true)
      in_whole b a same low high true is = inr (sym is)
      in_whole b a same low high false is =
          let outside : ¬ ((whole.first ≤ a) × (a ≤ whole.last)) = λ h. false≢true (is ∙ (within_is b a whole).1 (sym number_same ∙ same, h.0, h.1)) in
          inl (record {
            first = s.1.0;
            last = s.0;
            held = subst (λ (k : ℕ). ending m k s.0 ≡ Some s.1) (sym number_same ∙ same) met.held;
            from_first = besides s.1.0 a (λ less. outside (at_least a low less, let begins = met.begins in omega arith));
            to_last = besides a s.0 (λ less. outside (let ends = met.ends in omega arith, at_most a high less));
          })

      to_whole : (b a : ℕ) → Gives n b a tt ⊎ (is_within b a next ≡ true) → Gives m b a tt ⊎ (is_within b a whole ≡ true)
      to_whole b a (inl g) = inl (record { first = g.first; last = g.last; held = was b g.last (g.first, tt) g.held; from_first = g.from_first; to_last = g.to_last })
      to_whole b a (inr e) =
          let h = (within_is b a next).0 e in in_whole b a h.0 h.1 h.2 (is_within b a whole) refl

      of_whole : (b a : ℕ) → Gives m b a tt ⊎ (is_within b a whole ≡ true) → Gives n b a tt ⊎ (is_within b a next ≡ true)
      of_whole b a (inl g) = elim (same_or_other (register_number whole.base) s.0 b g.last) [
        | inl same ↦
            let held = subst (λ (k : ℕ). ending m (register_number whole.base) k ≡ Some (g.first, tt)) same.1 (subst (λ (k : ℕ). ending m k g.last ≡ Some (g.first, tt)) same.0 g.held) in
            let first : g.first ≡ s.1.0 = ap (λ x. x.0) (same_Some (g.first, tt) s.1 (sym held ∙ met.held)) in
            let last = same.1 in
            let from_first = g.from_first in
            let to_last = g.to_last in
            inr ((within_is b a next).1 (number_same ∙ sym same.0, omega arith, omega arith))
        | inr other ↦ inl (record { first = g.first; last = g.last; held = is_put.elsewhere b g.last other ∙ g.held; from_first = g.from_first; to_last = g.to_last })
      ]
      of_whole b a (inr e) =
          let h = (within_is b a whole).0 e in
          let low = h.1 in
          let high = h.2 in
          inr ((within_is b a next).1 (number_same ∙ h.0, omega arith, omega arith))

-- nothing is joined yet
pub joined_none : (old : BTreeMap (ℕ × ℕ) (ℕ × ⊤)) (p : Stretch) → AreDisjoint old → p.first ≤ p.last → IsJoined old p old p
joined_none old p apart ordered = record { disjoint = apart; ordered = ordered; same = λ b a. (λ h. h, λ h. h) }

-- the whole is put beside the others
pub covered :
    (old m n : BTreeMap (ℕ × ℕ) (ℕ × ⊤)) (p whole : Stretch)
    → IsJoined old p m whole
    → ((s : ℕ × (ℕ × ⊤)) → ¬ IsMet m whole s)
    → IsPut m n (register_number whole.base) whole.last (Some (whole.first, tt))
    → IsCovered old p n
covered old m n p whole joined alone is_put = record {
  disjoint = put_disjoint m n whole tt joined.disjoint joined.ordered alone is_put;
  same = λ b a.
      let gives = put_gives m n whole tt joined.disjoint joined.ordered alone is_put b a tt in (
        λ g. (joined.same b a).0 (elim (gives.0 g) [ inl was ↦ inl was | inr new ↦ inr new.0 ]),
        λ h. gives.1 (elim ((joined.same b a).1 h) [ inl was ↦ inl was | inr new ↦ inr (new, refl) ]),
      );
}

-- ## The numbers of rules

module _ {A : Type 0} (p : A → Bool) where
  -- the first place that passes, where one does
  place_is : (xs : List A) (n : ℕ) → position p xs ≡ Some n ↔ ((position_or_len p xs < length xs) × (position_or_len p xs ≡ n))
  place_is xs n = by_test (ltb (position_or_len p xs) (length xs)) refl
    where
      by_test :
          (b : Bool)
          → ltb (position_or_len p xs) (length xs) ≡ b
          → position p xs ≡ Some n
          ↔ ((position_or_len p xs < length xs) × (position_or_len p xs ≡ n))
      by_test true is = (
        λ e. (ltb-true (position_or_len p xs) (length xs) is, same_Some (position_or_len p xs) n (rw is at e)),
        λ h. rw is (ap Some h.1),
      )
      by_test false is = (
        λ e. absurd (none-some n (rw is at e)),
        λ h. absurd (false≢true (sym is ∙ lt-ltb (position_or_len p xs) (length xs) h.0)),
      )

  -- where some element passes, there is a first
  place_some : (xs : List A) (k : ℕ) (d : A) → k < length xs → p (get_or xs k d) ≡ true → position p xs ≡ Some (position_or_len p xs)
  place_some xs k d low own =
      (place_is xs (position_or_len p xs)).1 (not_le (length xs) (position_or_len p xs) (λ past. false≢true (sym (fails_before_first p xs k d (omega arith)) ∙ own)), refl)

  -- where none before passes, one more may be the first
  place_more :
      (xs : List A) (y : A) (n : ℕ)
      → (p y ≡ true → (k : ℕ) → position p xs ≡ Some k → ⊥)
      → position p (xs ++ y ∷ []) ≡ Some n
      ↔ ((position p xs ≡ Some n) ⊎ ((p y ≡ true) × (length xs ≡ n)))
  place_more xs y n alone = by_test (eqb (position_or_len p xs) (length xs)) (p y) refl refl
    where
      was : position p xs ≡ Some n ↔ ((position_or_len p xs < length xs) × (position_or_len p xs ≡ n))
      was = place_is xs n

      now : position p (xs ++ y ∷ []) ≡ Some n ↔ ((position_or_len p (xs ++ y ∷ []) < length (xs ++ y ∷ [])) × (position_or_len p (xs ++ y ∷ []) ≡ n))
      now = place_is (xs ++ y ∷ []) n

      longer : length (xs ++ y ∷ []) ≡ length xs + 1
      longer = length-append xs (y ∷ [])

      within : position_or_len p xs ≤ length xs
      within = prefix_len-le-length (λ x. not (p x)) xs

      pushed : (b own : Bool) → eqb (position_or_len p xs) (length xs) ≡ b → p y ≡ own → position_or_len p (xs ++ y ∷ []) ≡ cond b (length xs + cond own 0 1) (position_or_len p xs)
      pushed b own is passes = rw (← is, ← passes) (position_or_len_push p xs y)

      by_test :
          (b own : Bool)
          → eqb (position_or_len p xs) (length xs) ≡ b
          → p y ≡ own
          → position p (xs ++ y ∷ []) ≡ Some n
          ↔ ((position p xs ≡ Some n) ⊎ ((p y ≡ true) × (length xs ≡ n)))
      by_test true true is passes =
          let at = pushed true true is passes in
          let none = eqb-true (position_or_len p xs) (length xs) is in (
            λ e. let h = (now.0 e).1 in inr (passes, omega (arith, longer)),
            λ h. elim h [
              | inl e ↦ let low = (was.0 e).0 in absurd (omega arith)
              | inr new ↦ let last = new.1 in now.1 (omega (arith, longer), omega (arith, longer))
            ],
          )
      by_test true false is passes =
          let at = pushed true false is passes in
          let none = eqb-true (position_or_len p xs) (length xs) is in (
            λ e. let low = (now.0 e).0 in absurd (omega (arith, longer)),
            λ h. elim h [
              | inl e ↦ let low = (was.0 e).0 in absurd (omega arith)
              | inr new ↦ absurd (false≢true (sym passes ∙ new.0))
            ],
          )
      by_test false own is passes =
          let at = pushed false own is passes in
          let other : ¬ (position_or_len p xs ≡ length xs) = λ e. false≢true (sym is ∙ eq-eqb (position_or_len p xs) (length xs) e) in
          let low : position_or_len p xs < length xs = omega (arith, within, other) in (
            λ e. let h = (now.0 e).1 in inl (was.1 (low, omega arith)),
            λ h. elim h [
              | inl e ↦ let same = (was.0 e).1 in now.1 (omega (arith, longer), omega arith)
              | inr new ↦ absurd (alone new.0 (position_or_len p xs) ((place_is xs (position_or_len p xs)).1 (low, refl)))
            ],
          )

  -- the element that is found is that of the first place
  find_none : (xs : List A) → position p xs ≡ None → find p xs ≡ None
  find_none xs e = by_test (ltb (position_or_len p xs) (length xs)) refl
    where
      by_test : (b : Bool) → ltb (position_or_len p xs) (length xs) ≡ b → find p xs ≡ None
      by_test true is = absurd (none-some (position_or_len p xs) (sym (rw is at e)))
      by_test false is =
          find_at p xs ∙ slice_get_past xs (position_or_len p xs) (ltb-false (position_or_len p xs) (length xs) is)

  find_some : (xs : List A) (n : ℕ) (d : A) → position p xs ≡ Some n → find p xs ≡ Some (get_or xs n d)
  find_some xs n d e =
      let at = (place_is xs n).0 e in
      find_at p xs ∙ slice_get-get_or xs (position_or_len p xs) d at.0 ∙ ap (λ k. Some (get_or xs k d)) at.1

-- the class for a register at an address is that of the rule of the number
module _ (rules : List BaseRule) (a : ℕ) (base : Register) where
  pub ruled_none : position (is_ruled base a) rules ≡ None → ruled_class rules a (Some base) ≡ None
  ruled_none e = ap (option_map (λ r. r.class)) (find_none (is_ruled base a) rules e)

  pub ruled_some :
      (n : ℕ) (d : BaseRule)
      → position (is_ruled base a) rules ≡ Some n
      → ruled_class rules a (Some base) ≡ Some (get_or rules n d).class
  ruled_some n d e = ap (option_map (λ r. r.class)) (find_some (is_ruled base a) rules n d e)

-- ## The index of rules

module _ (m : BTreeMap (ℕ × ℕ) (ℕ × ℕ)) (r : BaseRule) (ordered : r.first ≤ r.last) where
  -- a rule that shares an address with one before it
  pub index_full :
      (rules : List BaseRule) (i : ℕ) (d : BaseRule) (s : ℕ × (ℕ × ℕ))
      → i < length rules
      → get_or rules i d ≡ r
      → AreOf m (number_for (take i rules))
      → IsMet m (part_of r) s
      → are_disjoint rules ≡ false
  index_full rules i d s low is of met =
      let at = met_gives m (part_of r) s of.disjoint ordered met in
      let own = position-Some (is_for (register_number r.register) at.0) (take i rules) s.1.1 d ((of.same (register_number r.register) at.0 s.1.1).0 at.1) in
      let shorter : length (take i rules) ≡ i = length-take-le i rules (omega arith) in
      let earlier = own.0 in
      let before : s.1.1 < i = omega arith in
      false_from_ne_true (are_disjoint rules) (λ apart. both_ruled ((apart_is rules).0 apart) s.1.1 before at.0 (subst (λ q. is_for (register_number r.register) at.0 q ≡ true) (get_or-take i rules s.1.1 d before) own.1) at.2)
    where
      both_ruled :
          AllPairs ShareNoWord rules
          → (k : ℕ) → k < i
          → (a : ℕ)
          → is_for (register_number r.register) a (get_or rules k d) ≡ true
          → is_for (register_number r.register) a r ≡ true
          → ⊥
      both_ruled apart k before a h own =
          apart k i d before low r.register a h (subst (λ q. is_for (register_number r.register) a q ≡ true) (sym is) own)

  -- one that shares none
  pub index_more :
      (rules : List BaseRule) (n : BTreeMap (ℕ × ℕ) (ℕ × ℕ))
      → ((s : ℕ × (ℕ × ℕ)) → ¬ IsMet m (part_of r) s)
      → IsPut m n (register_number r.register) r.last (Some (r.first, length rules))
      → AreOf m (number_for rules)
      → AllPairs ShareNoWord rules
      → AreOf n (number_for (rules ++ r ∷ [])) × AllPairs ShareNoWord (rules ++ r ∷ [])
  index_more rules n alone is_put of apart = (
    put_of m n (part_of r) (length rules) of.disjoint ordered alone is_put (number_for rules) (number_for (rules ++ r ∷ [])) of
        (λ b a k. place_more (is_for b a) rules r k (once b a)),
    all_pairs_push ShareNoWord rules r apart
        (λ k d low base a h own. once (register_number base) a own (position_or_len (is_for (register_number base) a) rules) (place_some (is_for (register_number base) a) rules k d low h)),
  )
    where
      once : (b a : ℕ) → is_for b a r ≡ true → (k : ℕ) → number_for rules b a ≡ Some k → ⊥
      once b a own k e = let met = gives_met m (part_of r) b a k ((of.same b a k).1 e) own in alone met.0 met.1

pub take_past : {A : Type 0} (xs : List A) (i : ℕ) → length xs ≤ i → take i xs ≡ xs
take_past [] zero h = refl
take_past [] (suc i) h = refl
take_past (x ∷ xs) zero h = absurd (omega arith)
take_past (x ∷ xs) (suc i) h = ap (λ ys. x ∷ ys) (take_past xs i (omega arith))

-- what holds of a value that there is
pub some_made : {A : Type 0} (N : Type 0) (P : A → Type 0) (o : Option A) (a : A) → o ≡ Some a → MatchOption o N P → P a
some_made N P o a is h = subst (λ q. MatchOption q N P) is h

-- ## Stretches of a document

module _ (before : List (Option Stretch)) where
  abbrev has : ℕ → ℕ → Bool
  has base a = list_any (holds_of (is_within base a)) before

  covered_is : (base a : ℕ) (v : ⊤) → is_covered before base a ≡ Some v ↔ (has base a ≡ true)
  covered_is base a v = by_test (has base a)
    where
      by_test : (b : Bool) → cond b (Some tt) None ≡ Some v ↔ (b ≡ true)
      by_test true = (λ e. refl, λ e. refl)
      by_test false = (λ e. absurd (none-some v e), λ e. absurd (false≢true e))

meets_at : (p q : Stretch) (base a : ℕ) → is_within base a p ≡ true → is_within base a q ≡ true → meets p q ≡ true
meets_at p q base a own other =
    let h = (within_is base a p).0 own in
    let k = (within_is base a q).0 other in
    let p_first = h.1 in let p_last = h.2 in let q_first = k.1 in let q_last = k.2 in
    both_true (eq-eqb (register_number p.base) (register_number q.base) (h.0 ∙ sym k.0)) (le-leb (max p.first q.first) (min p.last q.last) (omega arith))

at_meets : (p q : Stretch) → meets p q ≡ true → (a : ℕ) × (is_within (register_number p.base) a p ≡ true) × (is_within (register_number p.base) a q ≡ true)
at_meets p q e =
    let h = and_parts (eqb (register_number p.base) (register_number q.base)) (leb (max p.first q.first) (min p.last q.last)) e in
    let low = leb-true (max p.first q.first) (min p.last q.last) h.1 in
    let same = eqb-true (register_number p.base) (register_number q.base) h.0 in (
      max p.first q.first,
      (within_is (register_number p.base) (max p.first q.first) p).1 (refl, omega arith, omega arith),
      (within_is (register_number p.base) (max p.first q.first) q).1 (sym same, omega arith, omega arith),
    )

-- one of the stretches before meets it, where one of those stored does
any_meets :
    (p : Stretch) (base a : ℕ) (before : List (Option Stretch))
    → is_within base a p ≡ true
    → has before base a ≡ true
    → list_any (holds_of (meets p)) before ≡ true
any_meets p base a [] own e = absurd (false≢true e)
any_meets p base a (o ∷ before) own e = elim (cases_Bool (holds_of (is_within base a) o)) [
  | inl here ↦ rw (meets_here o here) refl
  | inr none ↦ rw (any_meets p base a before own (rw none at e)) (or-true (holds_of (meets p) o))
]
  where
    meets_here : (o : Option Stretch) → holds_of (is_within base a) o ≡ true → holds_of (meets p) o ≡ true
    meets_here None e = absurd (false≢true e)
    meets_here (Some q) e = meets_at p q base a own e

meets_any :
    (p : Stretch) (before : List (Option Stretch))
    → list_any (holds_of (meets p)) before ≡ true
    → (a : ℕ) × (is_within (register_number p.base) a p ≡ true) × (has before (register_number p.base) a ≡ true)
meets_any p [] e = absurd (false≢true e)
meets_any p (o ∷ before) e = by_test o (holds_of (meets p) o) refl (λ later. meets_any p before later)
  where
    by_test :
        (o' : Option Stretch) (b : Bool)
        → holds_of (meets p) o ≡ b
        → (list_any (holds_of (meets p)) before ≡ true → (a : ℕ) × (is_within (register_number p.base) a p ≡ true) × (has before (register_number p.base) a ≡ true))
        → (a : ℕ) × (is_within (register_number p.base) a p ≡ true) × (has (o ∷ before) (register_number p.base) a ≡ true)
    by_test o' true is later = here o is
      where
        here : (q : Option Stretch) → holds_of (meets p) q ≡ true → (a : ℕ) × (is_within (register_number p.base) a p ≡ true) × (has (q ∷ before) (register_number p.base) a ≡ true)
        here None e = absurd (false≢true e)
        here (Some q) e = let h = at_meets p q e in (h.0, h.1, rw h.2 refl)
    by_test o' false is later =
        let h = later (rw is at e) in
        (h.0, h.1, rw h.2 (or-true (holds_of (is_within (register_number p.base) h.0) o)))

same_tests : {A : Type 0} (k w : Bool) → k ≡ true ↔ A → w ≡ true ↔ A → k ≡ w
same_tests true w is also = sym (also.1 (is.0 refl))
same_tests false true is also = is.1 (also.0 refl)
same_tests false false is also = refl

any_more : (test : Option Stretch → Bool) (before : List (Option Stretch)) (o : Option Stretch) → list_any test (before ++ o ∷ []) ≡ true ↔ ((list_any test before ≡ true) ⊎ (test o ≡ true))
any_more test [] o =
    let is = or_is (test o) false (same_test (test o)) (same_test false) in (
      λ e. elim (is.0 e) [ inl own ↦ inr own | inr none ↦ inl none ],
      λ h. is.1 (elim h [ inl none ↦ inr none | inr own ↦ inl own ]),
    )
any_more test (q ∷ before) o =
    let rest = any_more test before o in
    let all = or_is (test q) (list_any test (before ++ o ∷ [])) (same_test (test q)) rest in
    let first = or_is (test q) (list_any test before) (same_test (test q)) (same_test (list_any test before)) in (
      λ e. elim (all.0 e) [
        | inl own ↦ inl (first.1 (inl own))
        | inr later ↦ elim later [ inl was ↦ inl (first.1 (inr was)) | inr new ↦ inr new ]
      ],
      λ h. all.1 (elim h [
        | inl was ↦ elim (first.0 was) [ inl own ↦ inl own | inr later ↦ inr (inl later) ]
        | inr new ↦ inr (inr new)
      ]),
    )

module _ (m : BTreeMap (ℕ × ℕ) (ℕ × ⊤)) (before : List (Option Stretch)) (of : AreOf m (is_covered before)) where
  -- whether a stretch meets those stored is whether it meets one before
  pub known_is : (p : Stretch) → p.first ≤ p.last → (known : Bool) → known ≡ true ↔ ((s : ℕ × (ℕ × ⊤)) × IsMet m p s) → known ≡ was_met before (Some p)
  known_is p ordered known is = same_tests known (was_met before (Some p)) is (
    λ e.
        let h = meets_any p before e in
        gives_met m p (register_number p.base) h.0 tt ((of.same (register_number p.base) h.0 tt).1 ((covered_is before (register_number p.base) h.0 tt).1 h.2)) h.1,
    λ h.
        let at = met_gives m p h.0 of.disjoint ordered h.1 in
        any_meets p (register_number p.base) at.0 before at.2 ((covered_is before (register_number p.base) at.0 h.0.1.1).0 ((of.same (register_number p.base) at.0 h.0.1.1).0 at.1)),
  )

  pub unknown_is : (p : Stretch) → p.last < p.first → false ≡ was_met before (Some p)
  unknown_is p reversed = sym (false_from_ne_true (was_met before (Some p)) never)
    where
      never : was_met before (Some p) ≡ true → ⊥
      never e =
          let h = meets_any p before e in
          let at = (within_is (register_number p.base) h.0 p).0 h.1 in
          let low = at.1 in
          let high = at.2 in
          omega arith

  pub none_more : (o : Option Stretch) → ((base a : ℕ) → holds_of (is_within base a) o ≡ true → ⊥) → AreOf m (is_covered (before ++ o ∷ []))
  none_more o none = record {
    disjoint = of.disjoint;
    same = λ base a v.
        let is = of.same base a v in
        let was = covered_is before base a v in
        let now = covered_is (before ++ o ∷ []) base a v in
        let more = any_more (holds_of (is_within base a)) before o in (
          λ g. now.1 (more.1 (inl (was.0 (is.0 g)))),
          λ e. elim (more.0 (now.0 e)) [ inl h ↦ is.1 (was.1 h) | inr own ↦ absurd (none base a own) ],
        );
  }

  pub reversed_more : (p : Stretch) → p.last < p.first → AreOf m (is_covered (before ++ Some p ∷ []))
  reversed_more p reversed =
      none_more (Some p) (λ base a e. let at = (within_is base a p).0 e in let low = at.1 in let high = at.2 in omega arith)

  pub covered_more : (n : BTreeMap (ℕ × ℕ) (ℕ × ⊤)) (p : Stretch) → IsCovered m p n → AreOf n (is_covered (before ++ Some p ∷ []))
  covered_more n p covers = record {
    disjoint = covers.disjoint;
    same = λ base a v.
        let is = of.same base a tt in
        let was = covered_is before base a tt in
        let now = covered_is (before ++ Some p ∷ []) base a v in
        let more = any_more (holds_of (is_within base a)) before (Some p) in
        let gives = covers.same base a in (
          λ g. now.1 (more.1 (elim (gives.0 g) [ inl old ↦ inl (was.0 (is.0 old)) | inr own ↦ inr own ])),
          λ e. gives.1 (elim (more.0 (now.0 e)) [ inl h ↦ inl (is.1 (was.1 h)) | inr own ↦ inr own ]),
        );
  }

-- nothing is covered yet
pub covered_none : (m : BTreeMap (ℕ × ℕ) (ℕ × ⊤)) → m.entries ≡ [] → AreOf m (is_covered [])
covered_none m none = record {
  disjoint = record {
    ordered = λ b l v e. absurd (none-some v (sym (nothing b l) ∙ e));
    apart = λ b l later v w e f less. absurd (none-some v (sym (nothing b l) ∙ e));
  };
  same = λ b a v. (λ g. absurd (none-some (g.first, v) (sym (nothing b g.last) ∙ g.held)), λ e. absurd (none-some v e));
}
  where
    nothing : (b l : ℕ) → ending m b l ≡ None
    nothing b l = ap (λ es. lookup (λ k. is_eq (pair_cmp (b, l) k)) es) none
