-- Sets of numbers, and the keys of them that are left to read.
use Rattle.std.proofs.Common.{◌≡◌, ◌∙◌, ℕ, Bool, true, false, cond, List, [], ◌∷◌, refl, sym, ap, arith, ⊎_elim}
use Rattle.std.specs.Prelude.{◌||◌, ◌&&◌, ◌==◌}
use Rattle.std.specs.BTreeMap.{is_at}
use Rattle.std.specs.List.{AllByRecursion, list_any}
use Rattle.std.specs.List.Sorted.{IsStrictlySortedBy}
use Rattle.std.specs.Ordering.{is_eq, nat_cmp}
use Rattle.std.specs.declared.cmp.Ordering.TheVariants.{Less}
use Rattle.std.proofs.lemmas.Bool.{cases_eq, ne_eqb}
use Rattle.std.proofs.lemmas.Bool.Decides.{nat_tests}
use Rattle.std.proofs.lemmas.Map.Keys.{sorted_head}

-- the number is one of the keys
abbrev pub has : List ℕ → ℕ → Bool
has keys n = list_any (is_at (nat_cmp n)) keys

pub found_is : (n k : ℕ) → is_at (nat_cmp n) k ≡ (n == k)
found_is n k = grind (arith, nat_tests)

pub found_by : (n k : ℕ) → is_at (nat_cmp k) n ≡ (n == k)
found_by n k = grind (arith, nat_tests)

or_last : (a e r : Bool) → (a || (e || r)) ≡ ((a || e) || r)
or_last true e r = refl
or_last false e r = refl

pub put_is : (b a : Bool) → cond b true a ≡ (a || b)
put_is true true = refl
put_is true false = refl
put_is false true = refl
put_is false false = refl

-- a number more is in the set, and no longer left
module _ (old new target : ℕ → Bool) (k : ℕ) (left rest : List ℕ) (left_is : left ≡ k ∷ rest) where
  pub put_next : ((n : ℕ) → (old n || has left n) ≡ target n) → ((n : ℕ) → new n ≡ cond (is_at (nat_cmp k) n) true (old n))
      → (n : ℕ) → (new n || has rest n) ≡ target n
  put_next before put n =
      let new_is : new n ≡ (old n || (n == k)) = put n ∙ ap (λ b. cond b true (old n)) (found_by n k) ∙ put_is (n == k) (old n) in
      ap (λ b. b || has rest n) new_is ∙ sym (or_last (old n) (n == k) (has rest n))
      ∙ ap (λ b. old n || (b || has rest n)) (sym (found_is n k)) ∙ ap (λ ks. old n || has ks n) (sym left_is) ∙ before n

  -- of those that pass a test
  module _ (test : ℕ → Bool) (before : (n : ℕ) → (old n || (has left n && test n)) ≡ target n) where
    tested : (n : ℕ) (b : Bool) → test k ≡ b → ((n == k) && test n) ≡ ((n == k) && b)
    tested n b is = ⊎_elim
        (λ (e : n ≡ k). ap (λ m. (n == k) && test m) e ∙ ap (λ c. (n == k) && c) is)
        (λ (ne : n ≡ k → ⊥). ap (λ c. c && test n) (ne_eqb n k ne) ∙ ap (λ c. c && b) (sym (ne_eqb n k ne)))
        (cases_eq n k)

    parted : (a e r t : Bool) → (a || ((e || r) && t)) ≡ ((a || (e && t)) || (r && t))
    parted true e r t = refl
    parted false true r true = refl
    parted false true true false = refl
    parted false true false false = refl
    parted false false r t = refl

    goes : (n : ℕ) → ((old n || ((n == k) && test n)) || (has rest n && test n)) ≡ target n
    goes n =
        sym (parted (old n) (n == k) (has rest n) (test n)) ∙ ap (λ b. old n || ((b || has rest n) && test n)) (sym (found_is n k))
        ∙ ap (λ ks. old n || (has ks n && test n)) (sym left_is) ∙ before n

    pub test_next : (b : Bool) → b ≡ test k → ((n : ℕ) → new n ≡ (old n || ((n == k) && b))) → (n : ℕ) → (new n || (has rest n && test n)) ≡ target n
    test_next b is put n =
        ap (λ x. x || (has rest n && test n)) (put n ∙ ap (λ x. old n || x) (sym (tested n b (sym is)))) ∙ goes n

pub all_put : (now target left : Bool) → left ≡ false → (now || left) ≡ target → now ≡ target
all_put true target left is h = ap (λ b. true || b) (sym is) ∙ h
all_put false target left is h = ap (λ b. false || b) (sym is) ∙ h

-- keys that ascend
none_equal : (n : ℕ) (k : ℕ) (ks : List ℕ) → n ≡ k → AllByRecursion (λ y. nat_cmp k y ≡ Less) ks → has ks n ≡ false
none_equal n k [] e h = refl
none_equal n k (x ∷ ks) e h =
    ap (λ m. is_eq (nat_cmp m x) || has ks n) e ∙ ap (λ o. is_eq o || has ks n) h.0 ∙ none_equal n k ks e h.1

pub gone : (n k : ℕ) (ks : List ℕ) → n ≡ k → IsStrictlySortedBy nat_cmp (k ∷ ks) → has ks n ≡ false
gone n k ks e sorted = none_equal n k ks e (sorted_head nat_cmp k ks sorted)
