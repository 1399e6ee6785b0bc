-- Lists with the same elements, none of which occurs twice: their sums are the same, and so is what is found in them.
use Rattle.std.proofs.Common.{◌≡◌, ◌≢◌, ◌∙◌, ℕ, ◌+◌, ◌-◌, suc, ◌<◌, ◌≤◌, Bool, true, List, [], ◌∷◌, length, get_or, sum_by, AllPairs, Contains, Option, Some, None, ⊎_elim, refl, sym, ap, arith}
use Rattle.std.specs.List.{find, remove}
use Rattle.std.proofs.lemmas.Bool.{cases_lt}
use Rattle.std.proofs.lemmas.List.{get_or_default}
use Rattle.std.proofs.lemmas.List.Edits.{get_or-remove_above, get_or-remove_below, length-remove}
use Rattle.std.proofs.lemmas.List.Sums.{sum_by-cons, sum_by-remove}
use Rattle.walks.proofs.RowLemmas.{find_some}
use Rattle.longest_walk.proofs.CarryFind.{find_known}

-- the elements of the one are elements of the other
abbrev pub Within : {X : Type 0} → List X → List X → Type 0
Within {X} xs ys = (x : X) → Contains xs x → Contains ys x

-- no element occurs twice
abbrev pub Differ : {X : Type 0} → List X → Type 0
Differ {X} xs = AllPairs (λ (x : X) (y : X). x ≢ y) xs

-- ## Sums

-- without its first element, the rest is in what is left of the other list
rest_within : {X : Type 0} (x : X) (xs ys : List X) (k : ℕ) → k < length ys → get_or ys k x ≡ x → Differ (x ∷ xs) → Within (x ∷ xs) ys → Within xs (remove ys k)
rest_within x xs ys k lt at differ inside y has =
    let h : Contains ys y = inside y (suc has.0, omega (arith, has.1), has.2) in
    let other : h.0 ≡ k → ⊥ = λ same. differ 0 (suc has.0) y (omega arith) (omega (arith, has.1)) (sym at ∙ get_or_default ys k x y lt ∙ ap (λ (n : ℕ). get_or ys n y) (sym same) ∙ h.2 ∙ sym has.2) in
    ⊎_elim
    (λ (below : h.0 < k). (h.0, omega (arith, h.1, lt, length-remove ys k lt), get_or-remove_below ys k y h.0 below lt ∙ h.2))
    (λ (above : k ≤ h.0).
    let up : k ≤ h.0 - 1 = omega arith in
    let is : (h.0 - 1) + 1 ≡ h.0 = omega arith in
    (h.0 - 1, omega (arith, h.1, length-remove ys k lt), get_or-remove_above ys k y (h.0 - 1) up lt ∙ ap (λ (n : ℕ). get_or ys n y) is ∙ h.2))
    (cases_lt h.0 k)

sum_within : {X : Type 0} (f : X → ℕ) (xs ys : List X) → Differ xs → Within xs ys → sum_by f xs ≤ sum_by f ys
sum_within f [] ys differ inside = omega arith
sum_within f (x ∷ xs) ys differ inside =
    let h : Contains ys x = inside x (0, omega arith, refl) in
    let taken : sum_by f (remove ys h.0) + f (get_or ys h.0 x) ≡ sum_by f ys = sum_by-remove f ys h.0 x h.1 in
    let own : f (get_or ys h.0 x) ≡ f x = ap f h.2 in
    let rest : sum_by f xs ≤ sum_by f (remove ys h.0) = sum_within f xs (remove ys h.0) (λ i j d less lt. differ (suc i) (suc j) d (omega arith) (omega arith)) (rest_within x xs ys h.0 h.1 h.2 differ inside) in
    omega (arith, sum_by-cons f x xs)

pub sum_same : {X : Type 0} (f : X → ℕ) (xs ys : List X) → Differ xs → Differ ys → Within xs ys → Within ys xs → sum_by f xs ≡ sum_by f ys
sum_same f xs ys differ others to from =
    let low : sum_by f xs ≤ sum_by f ys = sum_within f xs ys differ to in
    let high : sum_by f ys ≤ sum_by f xs = sum_within f ys xs others from in
    omega arith

-- ## Finding

-- what alone passes is found in both
pub find_same : {X : Type 0} (test : X → Bool) (xs ys : List X) → Within xs ys → Within ys xs → ((x y : X) → Contains xs x → Contains xs y → test x ≡ true → test y ≡ true → x ≡ y) → find test xs ≡ find test ys
find_same {X} test xs ys to from one = by (find test xs) (find test ys) refl refl
  where
    by : (o p : Option X) → find test xs ≡ o → find test ys ≡ p → o ≡ p
    by None None is at = refl
    by None (Some y) is at =
        let h = find_some test ys y at in
        let some = find_known test xs y (from y h.0) h.1 in
        let both : None ≡ Some some.0 = sym is ∙ some.1 in
        cc
    by (Some x) None is at =
        let h = find_some test xs x is in
        let some = find_known test ys x (to x h.0) h.1 in
        let both : None ≡ Some some.0 = sym at ∙ some.1 in
        cc
    by (Some x) (Some y) is at =
        let h = find_some test xs x is in
        let k = find_some test ys y at in
        ap Some (one x y h.0 (from y k.0) h.1 k.1)
