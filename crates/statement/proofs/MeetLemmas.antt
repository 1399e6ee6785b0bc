-- Rules for one register that share an address, in a document and as they are read.
use Rattle.std.proofs.Common.{◌≡◌, ◌↔◌, ◌<◌, ◌≤◌, ℕ, zero, suc, ◌-◌, get_or, Bool, true, false, not, ◌&&◌, leb, max, min, List, [], ◌∷◌, length, map, take, Option, Some, None, Ok, Err, IsSomeAnd, MatchOption, Any, inl, inr, refl, sym, ap, subst, ◌∙◌, arith, option_map}
use Rattle.std.specs.Prelude.{codes, unwrap_or, All, AllPairs}
use Rattle.std.specs.Cmp.Derive.{both_true}
use Rattle.std.specs.List.{AllZip, list_any, slice_get}
use Rattle.std.specs.Option.{option_and_then}
use Rattle.std.specs.Result.{result_ok}
use Rattle.std.proofs.Math.Bool.{and-false, or-true}
use Rattle.std.proofs.lemmas.Bool.{and_parts, cases_Bool, eq-eqb, eqb-true, false_from_ne_true, false≢true, le-leb, leb-true, true≢false}
use Rattle.std.proofs.lemmas.List.{take-map}
use Rattle.std.proofs.lemmas.List.Kept.{AllPairs-cons}
use Rattle.std.proofs.lemmas.Option.{none-some, same_Some, slice_get-map}
use Rattle.toml.specs.Data.{Data, Members, as_table}
use Rattle.toml_reading.specs.Documents.{has_only_keys, items_at}
use Rattle.toml_reading.specs.Lists.{HasRepeat, IsListUpTo}
use Rattle.toml_reading.specs.Lowest.{AtKey, IsNamed, NameFault}
use Rattle.toml_reading.proofs.LowestLemmas.{judged_value}
use Rattle.toml_reading.proofs.LowestParts.{any_cases, any_first, any_later, any_none}
use Rattle.arm2_decode.specs.Names.{is_same, register_number}
use Rattle.arm2_decode.specs.declared.names.Register.{Register}
use Rattle.arm2_decode.proofs.NameLemmas.{same_register}
use Rattle.asm_text.specs.Registers.{register_of}
use Rattle.bus_ticks.specs.declared.space.TheConstants.{SPACE_END}
use Rattle.image.specs.Labels.{Names}
use Rattle.statement.specs.Places.{IsRepeatAt}
use Rattle.statement.specs.PlaceTests.{holds_of, is_set, rule_meetings, stretch_of, stretch_of_entry, stretch_of_table, was_met}
use Rattle.statement.specs.Stated.{ShareNoWord, is_ruled}
use Rattle.statement.specs.Statement.{Read, are_disjoint, first_in, last_in, overlap, register_in, rule_keys}
use Rattle.statement.specs.StatementFaults.{statement_faults}
use Rattle.statement.specs.StatementRules.{AddressFault, HasRule, IsFirst, IsLast, IsRuleAt, RequiredFault, StatesRule}
use Rattle.statement.specs.Stretches.{meets}
use Rattle.statement.specs.declared.faults.StatementFault.{StatementFault}
use Rattle.statement.specs.declared.stated.BaseRule.{BaseRule}
use Rattle.statement.specs.declared.stretches.Stretch.{Stretch}
use Rattle.statement.proofs.RepeatLemmas.{or_is, repeat_get}
use Rattle.statement.proofs.RuleLemmas.{address_or_judged, word_in_judged}

-- ## Numbers and lists

pub between : (f l a : ℕ) → (leb f a && leb a l) ≡ true ↔ ((f ≤ a) × (a ≤ l))
between f l a = (
  λ e. let p = and_parts (leb f a) (leb a l) e in (leb-true f a p.0, leb-true a l p.1),
  λ h. both_true (le-leb f a h.0) (le-leb a l h.1),
)

module _ {A : Type 0} (test : A → Bool) (P : A → Type 0) (each : (a : A) → test a ≡ true ↔ P a) where
  pub list_any_is : (xs : List A) → list_any test xs ≡ true ↔ Any P xs
  list_any_is [] = (λ e. absurd (false≢true e), λ h. absurd (any_none P h))
  list_any_is (x ∷ xs) =
      let both = or_is (test x) (list_any test xs) (each x) (list_any_is xs) in (
        λ e. elim (both.0 e) [ inl p ↦ any_first P x xs p | inr later ↦ any_later P x xs later ],
        λ h. both.1 (any_cases P x xs h),
      )

module _ {A B : Type 0} (S : A → B → Type 0) (P : A → Type 0) (Q : B → Type 0)
    (each : (a : A) (b : B) → S a b → P a ↔ Q b) where
  any_zip : (xs : List A) (ys : List B) → AllZip S xs ys → Any P xs ↔ Any Q ys
  any_zip [] [] z = (λ h. absurd (any_none P h), λ h. absurd (any_none Q h))
  any_zip [] (y ∷ ys) z = absurd z
  any_zip (x ∷ xs) [] z = absurd z
  any_zip (x ∷ xs) (y ∷ ys) z =
      let rest = any_zip xs ys z.1 in (
        λ h. elim (any_cases P x xs h) [
          | inl p ↦ any_first Q y ys ((each x y z.0).0 p)
          | inr later ↦ any_later Q y ys (rest.0 later)
        ],
        λ h. elim (any_cases Q y ys h) [
          | inl q ↦ any_first P x xs ((each x y z.0).1 q)
          | inr later ↦ any_later P x xs (rest.1 later)
        ],
      )

-- ## Stretches

-- the address lies in the stretch, which is of that register
abbrev pub IsIn : Register → ℕ → Stretch → Type 0
IsIn base a p = (base ≡ p.base) × (p.first ≤ a) × (a ≤ p.last)

pub meets_is : (p q : Stretch) → meets p q ≡ true ↔ ((base : Register) × (a : ℕ) × IsIn base a p × IsIn base a q)
meets_is p q = (
  λ e. let h = and_parts (is_same p.base q.base) (leb (max p.first q.first) (min p.last q.last)) e in
      let same = same_register p.base q.base (eqb-true (register_number p.base) (register_number q.base) h.0) in
      let low = leb-true (max p.first q.first) (min p.last q.last) h.1 in
      (p.base, max p.first q.first, (refl, omega arith, omega arith), (same, omega arith, omega arith)),
  λ h.
      let same = eq-eqb (register_number p.base) (register_number q.base) (ap register_number (sym h.2.0 ∙ h.3.0)) in
      let p_first = h.2.1 in let p_last = h.2.2 in let q_first = h.3.1 in let q_last = h.3.2 in
      both_true same (le-leb (max p.first q.first) (min p.last q.last) (omega arith)),
)

-- ## Rules that were read

abbrev pub part_of : BaseRule → Stretch
part_of r = record { base = r.register; first = r.first; last = r.last }

pub ruled_is : (base : Register) (a : ℕ) (r : BaseRule) → is_ruled base a r ≡ true ↔ IsIn base a (part_of r)
ruled_is base a r = (
  λ e. let h = and_parts (is_same r.register base) (leb r.first a && leb a r.last) e in
      let low = (between r.first r.last a).0 h.1 in
      (sym (same_register r.register base (eqb-true (register_number r.register) (register_number base) h.0)), low.0, low.1),
  λ h. both_true (eq-eqb (register_number r.register) (register_number base) (ap register_number (sym h.0))) ((between r.first r.last a).1 (h.1, h.2)),
)

overlap_apart : (r q : BaseRule) → overlap r q ≡ false → ShareNoWord r q
overlap_apart r q e base a h k =
    false≢true (sym e ∙ (meets_is (part_of r) (part_of q)).1 (base, a, (ruled_is base a r).0 h, (ruled_is base a q).0 k))

apart_overlap : (r q : BaseRule) → ShareNoWord r q → overlap r q ≡ true → ⊥
apart_overlap r q apart e =
    let h = (meets_is (part_of r) (part_of q)).0 e in
    apart h.0 h.1 ((ruled_is h.0 h.1 r).1 h.2) ((ruled_is h.0 h.1 q).1 h.3)

later_apart : (r : BaseRule) (rules : List BaseRule) → list_any (overlap r) rules ≡ false → All (ShareNoWord r) rules
later_apart r rules e k d low =
    overlap_apart r (get_or rules k d) (false_from_ne_true (overlap r (get_or rules k d)) (λ over. false≢true (sym e ∙ any_at rules k low over)))
  where
    any_at :
        (qs : List BaseRule) (k : ℕ) → k < length qs → overlap r (get_or qs k d) ≡ true → list_any (overlap r) qs ≡ true
    any_at [] k low over = absurd (omega arith)
    any_at (q ∷ qs) zero low over = rw over refl
    any_at (q ∷ qs) (suc k) low over = rw (any_at qs k (omega arith) over) (or-true (overlap r q))

pub apart_is : (rules : List BaseRule) → are_disjoint rules ≡ true ↔ AllPairs ShareNoWord rules
apart_is [] = (λ e i j d less low. absurd (omega arith), λ h. refl)
apart_is (r ∷ rules) = (
  λ e. let h = and_parts (not (list_any (overlap r) rules)) (are_disjoint rules) e in
      AllPairs-cons ShareNoWord r rules (later_apart r rules (not_true (list_any (overlap r) rules) h.0)) ((apart_is rules).0 h.1),
  λ h. both_true (none_overlaps h) ((apart_is rules).1 (λ i j d less low. h (suc i) (suc j) d (omega arith) (omega arith))),
)
  where
    not_true : (b : Bool) → not b ≡ true → b ≡ false
    not_true true e = absurd (false≢true e)
    not_true false e = refl

    none_overlaps : AllPairs ShareNoWord (r ∷ rules) → not (list_any (overlap r) rules) ≡ true
    none_overlaps h =
        ap not (false_from_ne_true (list_any (overlap r) rules) (λ e.
        let at = (list_any_is (overlap r) (λ q. overlap r q ≡ true) (λ q. (λ e. e, λ e. e)) rules).0 e in
        apart_overlap r at.1 (subst (ShareNoWord r) at.3 (h zero (suc at.0) at.1 (omega arith) (let low = at.2 in omega arith))) at.4))

-- ## Rules in a document

no_value : {A : Type 0} (g : StatementFault) (a : A) → Err g ≡ Ok a → ⊥
no_value g a e = none-some a (ap result_ok e)

stretch_by :
    (r : Read Register) (s t : Read ℕ) (p : Stretch)
    → stretch_of r s t ≡ Some p ↔ ((r ≡ Ok p.base) × (s ≡ Ok p.first) × (t ≡ Ok p.last))
stretch_by (Ok base) (Ok first) (Ok last) p = (
  λ e. let is = same_Some (record { base = base; first = first; last = last }) p e in
      (λ i. Ok (is i).base, λ i. Ok (is i).first, λ i. Ok (is i).last),
  λ h.
      let b = same_Some base p.base (ap result_ok h.0) in
      let f = same_Some first p.first (ap result_ok h.1) in
      let l = same_Some last p.last (ap result_ok h.2) in
      λ i. Some (record { base = b i; first = f i; last = l i }),
)
stretch_by (Ok base) (Ok first) (Err g) p = (λ e. absurd (none-some p e), λ h. absurd (no_value g p.last h.2))
stretch_by (Ok base) (Err g) t p = (λ e. absurd (none-some p e), λ h. absurd (no_value g p.first h.1))
stretch_by (Err g) s t p = (λ e. absurd (none-some p e), λ h. absurd (no_value g p.base h.0))

module _ (names : Names) where
  -- what is at the keys of a rule that give its stretch
  abbrev HasStretch : Members → Stretch → Type 0
  HasStretch ms p =
      AtKey (codes "register") ms (λ d. IsNamed register_of d p.base) × IsFirst names ms p.first × IsLast names ms p.last

  table_stretch : (ms : Members) (p : Stretch) → stretch_of_table names ms ≡ Some p ↔ HasStretch ms p
  table_stretch ms p =
      let by = stretch_by (register_in ms) (first_in names ms) (last_in names ms) p in
      let base = judged_value statement_faults (λ r. AtKey (codes "register") ms (λ d. IsNamed register_of d r)) (RequiredFault (codes "register") ms (NameFault statement_faults register_of)) (register_in ms) (word_in_judged register_of (codes "register") ms) p.base in
      let first = judged_value statement_faults (IsFirst names ms) (λ f. AtKey (codes "first") ms (λ d. AddressFault names d f)) (first_in names ms) (address_or_judged names (codes "first") 0 ms) p.first in
      let last = judged_value statement_faults (IsLast names ms) (λ f. AtKey (codes "last") ms (λ d. AddressFault names d f)) (last_in names ms) (address_or_judged names (codes "last") (SPACE_END - 4) ms) p.last in (
        λ e. let h = by.0 e in (base.0 h.0, first.0 h.1, last.0 h.2),
        λ h. by.1 (base.1 h.0, first.1 h.1, last.1 h.2),
      )

  -- a rule for a register at an address is one with a stretch that has them
  pub rule_at_is :
      (base : Register) (d : Data) (a : ℕ)
      → IsRuleAt names base d a ↔ ((p : Stretch) × (stretch_of_entry names d ≡ Some p) × IsIn base a p)
  rule_at_is base d a = by_table (as_table d)
    where
      by_table :
          (o : Option Members)
          → IsSomeAnd o (λ ms. AtKey (codes "register") ms (λ e. IsNamed register_of e base) × ((first : ℕ) × (last : ℕ) × IsFirst names ms first × IsLast names ms last × (first ≤ a) × (a ≤ last)))
          ↔ ((p : Stretch) × (option_and_then (stretch_of_table names) o ≡ Some p) × IsIn base a p)
      by_table None = (λ h. absurd h, λ h. absurd (none-some h.0 h.1))
      by_table (Some ms) = (
        λ h. let p : Stretch = record { base = base; first = h.1.0; last = h.1.1 } in
            (p, (table_stretch ms p).1 (h.0, h.1.2, h.1.3), (refl, h.1.4, h.1.5)),
        λ h. let has = (table_stretch ms h.0).0 h.1 in
            (subst (λ (b : Register). AtKey (codes "register") ms (λ e. IsNamed register_of e b)) (sym h.2.0) has.0, (h.0.first, h.0.last, has.1, has.2, h.2.1, h.2.2)),
      )

  states_stretch : (d : Data) (r : BaseRule) → StatesRule names d r → stretch_of_entry names d ≡ Some (part_of r)
  states_stretch d r s = by_table (as_table d) s
    where
      by_table :
          (o : Option Members)
          → IsSomeAnd o (λ ms. (has_only_keys rule_keys ms ≡ true) × (HasRule names ms r × (r.first ≤ r.last)))
          → option_and_then (stretch_of_table names) o ≡ Some (part_of r)
      by_table None h = absurd h
      by_table (Some ms) h = (table_stretch ms (part_of r)).1 (h.1.0.register, h.1.0.first, h.1.0.last)

  -- of a rule that was read
  stated_at : (base : Register) (a : ℕ) (d : Data) (r : BaseRule) → StatesRule names d r → IsRuleAt names base d a ↔ IsIn base a (part_of r)
  stated_at base a d r s =
      let is = rule_at_is base d a in
      let part = states_stretch d r s in (
        λ h. let p = is.0 h in subst (IsIn base a) (same_Some p.0 (part_of r) (sym p.1 ∙ part)) p.2,
        λ h. is.1 (part_of r, part, h),
      )

  -- rules that are read share an address exactly where two entries are for one register at one address
  not_apart : (ds : List Data) (rules : List BaseRule) → AllZip (StatesRule names) ds rules → are_disjoint rules ≡ false ↔ ((base : Register) × HasRepeat (IsRuleAt names base) ds)
  not_apart [] [] z = (λ e. absurd (true≢false e), λ h. absurd h.1)
  not_apart [] (r ∷ rules) z = absurd z
  not_apart (d ∷ ds) [] z = absurd z
  not_apart (d ∷ ds) (r ∷ rules) z =
      let rest = not_apart ds rules z.1 in (to_repeat rest.0, λ h. of_repeat (λ base k. rest.1 (base, k)) h.0 h.1)
    where
      in_later : (base : Register) (a : ℕ) → Any (λ e. IsRuleAt names base e a) ds ↔ Any (λ q. IsIn base a (part_of q)) rules
      in_later base a =
          any_zip (StatesRule names) (λ e. IsRuleAt names base e a) (λ q. IsIn base a (part_of q)) (stated_at base a) ds rules z.1

      overlaps : list_any (overlap r) rules ≡ true ↔ Any (λ q. overlap r q ≡ true) rules
      overlaps = list_any_is (overlap r) (λ q. overlap r q ≡ true) (λ q. (λ e. e, λ e. e)) rules

      to_repeat :
          (are_disjoint rules ≡ false → (base : Register) × HasRepeat (IsRuleAt names base) ds)
          → are_disjoint (r ∷ rules) ≡ false
          → (base : Register) × HasRepeat (IsRuleAt names base) (d ∷ ds)
      to_repeat rest e = elim (cases_Bool (list_any (overlap r) rules)) [
        | inl over ↦
            let at = overlaps.0 over in
            let h = (meets_is (part_of r) (part_of at.1)).0 at.4 in
            (h.0, inl (h.1, (stated_at h.0 h.1 d r z.0).1 h.2, (in_later h.0 h.1).1 (at.0, at.1, at.2, at.3, h.3)))
        | inr none ↦ let h = rest (rw none at e) in (h.0, inr h.1)
      ]

      of_repeat :
          ((base : Register) → HasRepeat (IsRuleAt names base) ds → are_disjoint rules ≡ false)
          → (base : Register) → HasRepeat (IsRuleAt names base) (d ∷ ds) → are_disjoint (r ∷ rules) ≡ false
      of_repeat rest base (inl h) =
          let at = (in_later base h.0).0 h.2 in
          let over = (meets_is (part_of r) (part_of at.1)).1 (base, h.0, (stated_at base h.0 d r z.0).0 h.1, at.4) in
          rw (overlaps.1 (at.0, at.1, at.2, at.3, over)) refl
      of_repeat rest base (inr h) =
          rw (rest base h) (and-false (not (list_any (overlap r) rules)))

  -- the same of a list that may be missing
  pub rules_not_apart :
      (limit : ℕ) (o : Option Data) (rules : List BaseRule)
      → MatchOption o (rules ≡ []) (λ d. IsListUpTo limit (StatesRule names) d rules)
      → are_disjoint rules ≡ false ↔ ((base : Register) × IsSomeAnd o (λ d. IsSomeAnd (items_at d) (HasRepeat (IsRuleAt names base))))
  rules_not_apart limit None rules h = (λ e. absurd (true≢false (sym (ap are_disjoint h) ∙ e)), λ t. absurd t.1)
  rules_not_apart limit (Some d) rules h = in_items (items_at d) h
    where
      in_items :
          (o : Option (List Data))
          → IsSomeAnd o (λ ds. (length ds ≤ limit) × AllZip (StatesRule names) ds rules)
          → are_disjoint rules ≡ false ↔ ((base : Register) × IsSomeAnd o (HasRepeat (IsRuleAt names base)))
      in_items None h = absurd h
      in_items (Some ds) h = not_apart ds rules h.1

  -- ## Tests of them

  abbrev MeetsOne : List Data → Data → Type 0
  MeetsOne ds d = (base : Register) × (a : ℕ) × IsRuleAt names base d a × Any (λ e. IsRuleAt names base e a) ds

  abbrev IsMetBy : Stretch → Data → Type 0
  IsMetBy p e = holds_of (meets p) (stretch_of_entry names e) ≡ true

  met_by : (p : Stretch) (o : Option Stretch) → holds_of (meets p) o ≡ true ↔ ((q : Stretch) × (o ≡ Some q) × (meets p q ≡ true))
  met_by p None = (λ e. absurd (false≢true e), λ h. absurd (none-some h.0 h.1))
  met_by p (Some q) = (λ e. (q, refl, e), λ h. ap (meets p) (same_Some q h.0 h.1) ∙ h.2)

  any_map : (p : Stretch) (ds : List Data) → list_any (holds_of (meets p)) (map (stretch_of_entry names) ds) ≡ true ↔ Any (IsMetBy p) ds
  any_map p [] = (λ e. absurd (false≢true e), λ h. absurd (any_none (IsMetBy p) h))
  any_map p (d ∷ ds) =
      let both = or_is (holds_of (meets p) (stretch_of_entry names d)) (list_any (holds_of (meets p)) (map (stretch_of_entry names) ds)) (λ e. e, λ e. e) (any_map p ds) in (
        λ e. elim (both.0 e) [ inl m ↦ any_first (IsMetBy p) d ds m | inr later ↦ any_later (IsMetBy p) d ds later ],
        λ h. both.1 (any_cases (IsMetBy p) d ds h),
      )

  was_met_is : (ds : List Data) (d : Data) (o : Option Stretch) → o ≡ stretch_of_entry names d → was_met (map (stretch_of_entry names) ds) o ≡ true ↔ MeetsOne ds d
  was_met_is ds d None is = (
    λ e. absurd (false≢true e),
    λ h. let p = (rule_at_is h.0 d h.1).0 h.2 in absurd (none-some p.0 (is ∙ p.1)),
  )
  was_met_is ds d (Some p) is = (
    λ e.
        let at = (any_map p ds).0 e in
        let q = (met_by p (stretch_of_entry names at.1)).0 at.4 in
        let h = (meets_is p q.0).0 q.2 in
        (h.0, h.1, (rule_at_is h.0 d h.1).1 (p, sym is, h.2), (at.0, at.1, at.2, at.3, (rule_at_is h.0 at.1 h.1).1 (q.0, q.1, h.3))),
    λ h.
        let own = (rule_at_is h.0 d h.1).0 h.2 in
        let q = (rule_at_is h.0 h.3.1 h.1).0 h.3.4 in
        let same = same_Some p own.0 (is ∙ own.1) in
        let met = (meets_is p q.0).1 (h.0, h.1, subst (IsIn h.0 h.1) (sym same) own.2, q.2) in
        (any_map p ds).1 (h.3.0, h.3.1, h.3.2, h.3.3, (met_by p (stretch_of_entry names h.3.1)).1 (q.0, q.1, met)),
  )

  set_is :
      (before : List Data) (o : Option Data)
      → unwrap_or (option_map (was_met (map (stretch_of_entry names) before)) (option_map (stretch_of_entry names) o)) false ≡ true
      ↔ ((base : Register) × (a : ℕ) × IsSomeAnd o (λ d. IsRuleAt names base d a) × Any (λ e. IsRuleAt names base e a) before)
  set_is before None = (λ e. absurd (false≢true e), λ h. absurd h.2)
  set_is before (Some d) = was_met_is before d (stretch_of_entry names d) refl

  -- a rule shares an address with an earlier one
  pub meeting_is : (ds : List Data) (n : ℕ) → is_set (rule_meetings names ds) n ≡ true ↔ ((base : Register) × IsRepeatAt (IsRuleAt names base) ds n)
  meeting_is ds n =
      let num = stretch_of_entry names in
      let get = repeat_get was_met [] (map num ds) n in
      let same : is_set (rule_meetings names ds) n ≡ unwrap_or (option_map (was_met (map num (take n ds))) (option_map num (slice_get ds n))) false =
      ap (λ o. unwrap_or o false) (get ∙ (λ i. option_map (was_met (take-map num n ds i)) (slice_get-map num ds n i))) in
      let is = set_is (take n ds) (slice_get ds n) in
      (λ e. let h = is.0 (sym same ∙ e) in (h.0, (h.1, h.2, h.3)), λ h. same ∙ is.1 (h.0, h.1.0, h.1.1, h.1.2))
