-- Flags that give two outcomes, and sets of outcomes.
use Rattle.std.proofs.Common.{◌≡◌, ◌≢◌, ◌∙◌, ℕ, ◌<◌, ◌≤◌, ◌+◌, ◌⊎◌, inl, inr, Bool, true, false, List, length, get_or, slice_set, get_or-set_same, get_or-set_other, refl, sym, ap, subst, arith}
use Rattle.std.proofs.lemmas.Bool.{cases_eq}
use Rattle.std.specs.Prelude.{◌↔◌, IsTrue}
use Rattle.arm2_decode.specs.Names.{cond_number}
use Rattle.arm2_decode.specs.declared.flags.Flags.{Flags}
use Rattle.arm2_decode.specs.declared.names.Cond.{Cond}
use Rattle.arm2_decode.specs.declared.names.Cond.TheVariants.{Eq}
use Rattle.arm2_decode.proofs.NameLemmas.{same_cond}
use Rattle.walk_contradictions.specs.Outcomes.{Exclude, Gives}
use Rattle.walk_contradictions.specs.Passing.{Excludes, ExcludesAt, ExcludesBy, has}
use Rattle.walk_contradictions.specs.declared.outcomes.Outcome.{Outcome}
use Rattle.walk_contradictions.specs.declared.outcomes.Outcomes.{Outcomes}

no_both : false ≡ true → ⊥
no_both is = absurd (cc)

-- where the first of two answers is no
pub late_flag : (P : Bool → Type 0) (one two : Bool) → one ≡ false → (IsTrue one ↔ P false) → (IsTrue two ↔ P true) → IsTrue two ↔ ((b : Bool) × P b)
late_flag P one two is first second = (λ yes. (true, second.0 yes), from)
  where
    from : ((b : Bool) × P b) → IsTrue two
    from (true, p) = second.1 p
    from (false, p) = absurd (no_both (sym is ∙ first.1 p))

module _ (one other : Outcome) where
  abbrev pub Both : Flags → Type 0
  Both flags = Gives flags one × Gives flags other

  abbrev pub SomeOverflow : (negative zero carry : Bool) → Type 0
  SomeOverflow negative zero carry =
      (overflow : Bool) × Both (record { negative = negative; zero = zero; carry = carry; overflow = overflow })

  abbrev pub SomeCarry : (negative zero : Bool) → Type 0
  SomeCarry negative zero = (carry : Bool) × SomeOverflow negative zero carry

  abbrev pub SomeZero : (negative : Bool) → Type 0
  SomeZero negative = (zero : Bool) × SomeCarry negative zero

  pub some_flags : (answer : Bool) → (IsTrue answer ↔ ((negative : Bool) × SomeZero negative)) → IsTrue answer ↔ ((flags : Flags) × Both flags)
  some_flags answer both = (λ yes. to (both.0 yes), λ f. both.1 (f.0.negative, (f.0.zero, (f.0.carry, (f.0.overflow, f.1)))))
    where
      to : (negative : Bool) × SomeZero negative → (flags : Flags) × Both flags
      to (n, (z, (c, (v, b)))) = (record { negative = n; zero = z; carry = c; overflow = v }, b)

-- the outcome of a condition by its number
pub of_number : (set : Outcomes) (other : Outcome) (number : ℕ) (holds : Bool) (condition : Cond) → cond_number condition ≡ number → (answer : Bool)
    → (IsTrue answer ↔ Exclude (record { cond = condition; holds = holds }) other) → has set (record { cond = condition; holds = holds }) ≡ true
    → IsTrue answer ↔ ExcludesBy set other number holds
of_number set other number holds condition numbered answer excludes among = (
  λ yes. record { one = record { cond = condition; holds = holds }; numbered = numbered; comes_out = refl; among = among; excluded = excludes.0 yes },
  λ e. excludes.1 (subst (λ (o : Outcome). Exclude o other) (same e) e.excluded),
)
  where
    same : (e : ExcludesBy set other number holds) → e.one ≡ record { cond = condition; holds = holds }
    same e =
        ap (λ (c : Cond). record { cond = c; holds = e.one.holds }) (same_cond e.one.cond condition (e.numbered ∙ sym numbered))
        ∙ ap (λ (h : Bool). record { cond = condition; holds = h }) e.comes_out

-- one that the set lacks
pub not_by_number : (set : Outcomes) (other : Outcome) (number : ℕ) (holds : Bool) (condition : Cond) → cond_number condition ≡ number
    → has set (record { cond = condition; holds = holds }) ≡ false → IsTrue false ↔ ExcludesBy set other number holds
not_by_number set other number holds condition numbered lacks = (λ yes. absurd (no_both yes), λ e. absurd (no_both (sym (lost e) ∙ e.among)))
  where
    lost : (e : ExcludesBy set other number holds) → has set e.one ≡ false
    lost e =
        ap (λ (c : Cond). has set (record { cond = c; holds = e.one.holds })) (same_cond e.one.cond condition (e.numbered ∙ sym numbered))
        ∙ ap (λ (h : Bool). has set (record { cond = condition; holds = h })) e.comes_out ∙ lacks

cond_small : (x : Cond) → cond_number x < 16
cond_small Eq = omega arith
cond_small _ = omega arith

-- none of the first sixteen numbers is that of one
pub none_excludes : (set : Outcomes) (other : Outcome) (k : ℕ) → 16 ≤ k → ((n : ℕ) → n < k → ExcludesAt set other n → ⊥) → IsTrue false ↔ Excludes set other
none_excludes set other k all none = (λ yes. absurd (no_both yes), λ e. absurd (from e e.one.holds refl))
  where
    numbered : (e : Excludes set other) → cond_number e.one.cond < k
    numbered e = let small : cond_number e.one.cond < 16 = cond_small e.one.cond in omega (arith, small, all)

    from : (e : Excludes set other) (holds : Bool) → e.one.holds ≡ holds → ⊥
    from e true is = none (cond_number e.one.cond) (numbered e) (inl (record { one = e.one; numbered = refl; comes_out = is; among = e.among; excluded = e.excluded }))
    from e false is = none (cond_number e.one.cond) (numbered e) (inr (record { one = e.one; numbered = refl; comes_out = is; among = e.among; excluded = e.excluded }))

pub some_excludes : (set : Outcomes) (other : Outcome) (n : ℕ) → ExcludesAt set other n → Excludes set other
some_excludes set other n (inl e) = record { one = e.one; among = e.among; excluded = e.excluded }
some_excludes set other n (inr e) = record { one = e.one; among = e.among; excluded = e.excluded }

-- ## Either of two lists

abbrev pub IsEither : (both first second : List Bool) → ℕ → Type 0
IsEither both first second k = (n : ℕ) → (get_or both n false ≡ true) ↔ ((get_or first n false ≡ true) ⊎ ((n < k) × (get_or second n false ≡ true)))

module _ (both first second : List Bool) (k : ℕ) (is : IsEither both first second k) where
  pub either_set : (new : List Bool) → k < length both → get_or second k false ≡ true → new ≡ slice_set both k true → IsEither new first second (k + 1)
  either_set new lt second_is set n = by_number (cases_eq n k)
    where
      same : n ≡ k → get_or new n false ≡ true
      same at = ap (λ (xs : List Bool). get_or xs n false) set ∙ ap (λ m. get_or (slice_set both k true) m false) at ∙ get_or-set_same both k true false lt

      other : n ≢ k → get_or new n false ≡ get_or both n false
      other away = ap (λ (xs : List Bool). get_or xs n false) set ∙ get_or-set_other both k n true false away

      wider : (get_or first n false ≡ true) ⊎ ((n < k) × (get_or second n false ≡ true)) → (get_or first n false ≡ true) ⊎ ((n < k + 1) × (get_or second n false ≡ true))
      wider (inl x) = inl x
      wider (inr (below, x)) = inr (omega (arith, below), x)

      narrower : n ≢ k → (get_or first n false ≡ true) ⊎ ((n < k + 1) × (get_or second n false ≡ true)) → (get_or first n false ≡ true) ⊎ ((n < k) × (get_or second n false ≡ true))
      narrower away (inl x) = inl x
      narrower away (inr (below, x)) = inr (omega (arith, below, away), x)

      by_number : n ≡ k ⊎ n ≢ k → (get_or new n false ≡ true) ↔ ((get_or first n false ≡ true) ⊎ ((n < k + 1) × (get_or second n false ≡ true)))
      by_number (inl at) = (λ x. inr (omega (arith, at), ap (λ m. get_or second m false) at ∙ second_is), λ x. same at)
      by_number (inr away) = (λ x. wider ((is n).0 (sym (other away) ∙ x)), λ x. other away ∙ (is n).1 (narrower away x))

  pub either_kept : (new : List Bool) → get_or second k false ≡ false → new ≡ both → IsEither new first second (k + 1)
  either_kept new second_is same n = (λ x. wider ((is n).0 (ap (λ (xs : List Bool). get_or xs n false) (sym same) ∙ x)), λ x. ap (λ (xs : List Bool). get_or xs n false) same ∙ (is n).1 (narrower x))
    where
      wider : (get_or first n false ≡ true) ⊎ ((n < k) × (get_or second n false ≡ true)) → (get_or first n false ≡ true) ⊎ ((n < k + 1) × (get_or second n false ≡ true))
      wider (inl x) = inl x
      wider (inr (below, x)) = inr (omega (arith, below), x)

      by_number : n ≡ k ⊎ n ≢ k → n < k + 1 → get_or second n false ≡ true → (get_or first n false ≡ true) ⊎ ((n < k) × (get_or second n false ≡ true))
      by_number (inl at) below x = absurd (no_both (sym second_is ∙ ap (λ m. get_or second m false) (sym at) ∙ x))
      by_number (inr away) below x = inr (omega (arith, below, away), x)

      narrower : (get_or first n false ≡ true) ⊎ ((n < k + 1) × (get_or second n false ≡ true)) → (get_or first n false ≡ true) ⊎ ((n < k) × (get_or second n false ≡ true))
      narrower (inl x) = inl x
      narrower (inr (below, x)) = by_number (cases_eq n k) below x
