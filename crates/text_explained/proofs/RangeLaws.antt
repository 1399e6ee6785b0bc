-- The least and the greatest of some costs.
use Rattle.std.proofs.Common.{◌≡◌, ◌∙◌, ℕ, zero, suc, ◌+◌, ◌<◌, ◌≤◌, min, max, Bool, true, false, cond, List, [], ◌∷◌, ◌++◌, Option, Some, None, ◌⊎◌, inl, inr, ⊎_elim, append-nil, map, refl, sym, ap, subst, arith, add-one}
use Rattle.std.specs.Prelude.{Contains, count_by, filter}
use Rattle.std.specs.List.{range_with_len}
use Rattle.std.proofs.lemmas.Bool.{cases_Bool, cases_lt, false≢true}
use Rattle.std.proofs.lemmas.List.{map-append}
use Rattle.std.proofs.lemmas.List.Elements.{Contains-append_cases, Contains-append_left, Contains-append_right, Contains-push, Contains-push_cases, filter-append}
use Rattle.std.proofs.lemmas.List.Sums.{fold-append, sum_by-cons}
use Rattle.text_explained.specs.Taken.{range_of, widened}
use Rattle.text_explained.specs.declared.walk_tally.Costs.{Costs}
use Rattle.walk_counts.proofs.SumLemmas.{range_push}

numbers_more : (i : ℕ) → range_with_len 0 (i + 1) ≡ range_with_len 0 i ++ i ∷ []
numbers_more i = ap (λ n. range_with_len 0 n) (add-one i) ∙ range_push i 0 ∙ ap (λ k. range_with_len 0 i ++ k ∷ []) (omega arith)

-- some numbers pass a test, and each has a cost
module _ (test : ℕ → Bool) (cost : ℕ → ℕ) where
  -- the costs of those of the first numbers that pass
  abbrev pub costs_to : ℕ → List ℕ
  costs_to count = map cost (filter test (range_with_len 0 count))

  costs_push : (i : ℕ) (b : Bool) → test i ≡ b → costs_to (i + 1) ≡ costs_to i ++ map cost (cond b (i ∷ []) [])
  costs_push i b is =
      ap (λ ks. map cost (filter test ks)) (numbers_more i)
      ∙ ap (λ ks. map cost ks) (filter-append test (range_with_len 0 i) (i ∷ []))
      ∙ map-append cost (filter test (range_with_len 0 i)) (filter test (i ∷ []))
      ∙ ap (λ c. costs_to i ++ map cost (cond c (i ∷ []) [])) is

  pub range_kept : (i : ℕ) → test i ≡ true → range_of (costs_to (i + 1)) ≡ widened (range_of (costs_to i)) (cost i)
  range_kept i met = ap (λ cs. range_of cs) (costs_push i true met) ∙ fold-append widened None (costs_to i) (cost i ∷ [])

  pub range_left : (i : ℕ) → test i ≡ false → range_of (costs_to (i + 1)) ≡ range_of (costs_to i)
  range_left i unmet = ap (λ cs. range_of cs) (costs_push i false unmet ∙ append-nil (costs_to i))

  -- ## What they are

  -- one of the first numbers passes, and costs so much
  pub record HasCost (k n : ℕ) : Type 0 where
    pub number : ℕ
    pub below : number < k
    pub passes : test number ≡ true
    pub costs : cost number ≡ n

  abbrev pub IsRange : ℕ → Option Costs → Type 0
  IsRange k None = (n : ℕ) → HasCost k n → ⊥
  IsRange k (Some c) = HasCost k c.least × HasCost k c.greatest × ((n : ℕ) → HasCost k n → (c.least ≤ n) × (n ≤ c.greatest))

  later : (k n : ℕ) → HasCost k n → HasCost (k + 1) n
  later k n h = let lt : h.number < k = h.below in record { number = h.number; below = omega arith; passes = h.passes; costs = h.costs }

  last_or : (k n : ℕ) → HasCost (k + 1) n → HasCost k n ⊎ ((test k ≡ true) × (cost k ≡ n))
  last_or k n h = ⊎_elim
      (λ (lt : h.number < k). inl (record { number = h.number; below = lt; passes = h.passes; costs = h.costs }))
      (λ (le : k ≤ h.number).
      let below : h.number < k + 1 = h.below in
      let same : h.number ≡ k = omega arith in
      inr (ap test (sym same) ∙ h.passes, ap cost (sym same) ∙ h.costs))
      (cases_lt h.number k)

  own : (k n : ℕ) → test k ≡ true → cost k ≡ n → HasCost (k + 1) n
  own k n met is = record { number = k; below = omega arith; passes = met; costs = is }

  is_kept : (k : ℕ) (r : Option Costs) → test k ≡ true → IsRange k r → IsRange (k + 1) (widened r (cost k))
  is_kept k None met none = (
    own k (cost k) met refl,
    own k (cost k) met refl,
    λ n h. ⊎_elim (λ old. absurd (none n old)) (λ now. let e : cost k ≡ n = now.1 in (omega arith, omega arith)) (last_or k n h),
  )
  is_kept k (Some c) met all = (
    ⊎_elim
        (λ (lt : cost k < c.least). let e : cost k ≡ min c.least (cost k) = omega arith in own k (min c.least (cost k)) met e)
        (λ (le : c.least ≤ cost k). let e : c.least ≡ min c.least (cost k) = omega arith in subst (HasCost (k + 1)) e (later k c.least all.0))
        (cases_lt (cost k) c.least),
    ⊎_elim
        (λ (lt : c.greatest < cost k). let e : cost k ≡ max c.greatest (cost k) = omega arith in own k (max c.greatest (cost k)) met e)
        (λ (le : cost k ≤ c.greatest). let e : c.greatest ≡ max c.greatest (cost k) = omega arith in subst (HasCost (k + 1)) e (later k c.greatest all.1))
        (cases_lt c.greatest (cost k)),
    λ n h. ⊎_elim
        (λ old. let low : c.least ≤ n = (all.2 n old).0 in let high : n ≤ c.greatest = (all.2 n old).1 in (omega arith, omega arith))
        (λ now. let e : cost k ≡ n = now.1 in (omega arith, omega arith))
        (last_or k n h),
  )

  is_left : (k : ℕ) (r : Option Costs) → test k ≡ false → IsRange k r → IsRange (k + 1) r
  is_left k None unmet none = λ n h. ⊎_elim (λ old. none n old) (λ now. false≢true (sym unmet ∙ now.0)) (last_or k n h)
  is_left k (Some c) unmet all = (
    later k c.least all.0,
    later k c.greatest all.1,
    λ n h. ⊎_elim (λ old. all.2 n old) (λ now. absurd (false≢true (sym unmet ∙ now.0))) (last_or k n h),
  )

  pub range_is : (k : ℕ) → IsRange k (range_of (costs_to k))
  range_is zero = λ n h. let below : h.number < 0 = h.below in absurd (omega arith)
  range_is (suc k) =
      subst (λ m. IsRange m (range_of (costs_to m))) (add-one k)
      (⊎_elim
      (λ met. subst (IsRange (k + 1)) (sym (range_kept k met)) (is_kept k (range_of (costs_to k)) met (range_is k)))
      (λ unmet. subst (IsRange (k + 1)) (sym (range_left k unmet)) (is_left k (range_of (costs_to k)) unmet (range_is k)))
      (cases_Bool (test k)))

-- ## What is counted

module _ {X : Type 0} (p : X → Bool) where
  count_cons : (x : X) (xs : List X) → count_by p (x ∷ xs) ≡ cond (p x) 1 0 + count_by p xs
  count_cons x xs = sum_by-cons (λ y. cond (p y) 1 0) x xs

  -- where something is counted, an element passes
  pub some_counted : (xs : List X) → 0 < count_by p xs → (x : X) × Contains xs x × (p x ≡ true)
  some_counted [] some = absurd (omega arith)
  some_counted (x ∷ xs) some = ⊎_elim
      (λ met. (x, Contains-append_left (x ∷ []) xs x (Contains-push [] x), met))
      (λ (unmet : p x ≡ false).
      let none : cond {A = ℕ} (p x) 1 0 ≡ 0 = ap (λ (b : Bool). cond {A = ℕ} b 1 0) unmet in
      let all = count_cons x xs in
      let rest : 0 < count_by p xs = omega arith in
      let w = some_counted xs rest in
      (w.0, Contains-append_right (x ∷ []) xs w.0 w.1, w.2))
      (cases_Bool (p x))

  -- an element that passes is counted
  pub is_counted : (xs : List X) (x : X) → Contains xs x → p x ≡ true → 0 < count_by p xs
  is_counted [] x has met = absurd (let lt : has.0 < 0 = has.1 in omega arith)
  is_counted (y ∷ xs) x has met =
      let all = count_cons y xs in
      ⊎_elim
      (λ first. ⊎_elim
      (λ nowhere. absurd (let lt : nowhere.0 < 0 = nowhere.1 in omega arith))
      (λ same. let one : cond {A = ℕ} (p y) 1 0 ≡ 1 = ap (λ (b : Bool). cond {A = ℕ} b 1 0) (ap p same ∙ met) in let goal : 0 < count_by p (y ∷ xs) = omega arith in goal)
      (Contains-push_cases [] y x first))
      (λ later. let rest : 0 < count_by p xs = is_counted xs x later met in let goal : 0 < count_by p (y ∷ xs) = omega arith in goal)
      (Contains-append_cases (y ∷ []) xs x has)
