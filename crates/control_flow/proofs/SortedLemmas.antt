-- Strictly ascending lists, by a total order that tells all keys apart.
use Rattle.std.proofs.Common.{◌≡◌, ℕ, zero, suc, ◌<◌, ◌≤◌, List, [], ◌∷◌, length, get_or, ◌⊎◌, inl, inr, ⊎_elim, refl, sym, ap, ◌∙◌, subst, arith}
use Rattle.std.specs.Prelude.{Contains}
use Rattle.std.specs.Cmp.{IsTotalOrder, tied_itself}
use Rattle.std.specs.Ordering.{ordering_reverse}
use Rattle.std.specs.List.Sorted.{IsStrictlySortedBy}
use Rattle.std.specs.declared.cmp.Ordering.{Ordering}
use Rattle.std.specs.declared.cmp.Ordering.TheVariants.{Less, Equal}
use Rattle.std.proofs.lemmas.Map.Keys.{sorted_head, sorted_tail}
use Rattle.std.proofs.lemmas.List.Elements.{All-contains, All-from_recursion}

pub no_member : {K : Type 0} (x : K) → Contains [] x → ⊥
no_member x h = let lt : h.0 < 0 = h.1 in absurd (omega arith)

pub here : {K : Type 0} (x : K) (xs : List K) → Contains (x ∷ xs) x
here x xs = (0, omega arith, refl)

pub there : {K : Type 0} (x : K) (xs : List K) (z : K) → Contains xs z → Contains (x ∷ xs) z
there x xs z h = let lt : h.0 < length xs = h.1 in (suc h.0, omega arith, h.2)

pub read_in : {K : Type 0} (xs : List K) (k : ℕ) (x : K) → k < length xs → x ≡ get_or xs k x → Contains xs x
read_in xs k x lt is = (k, lt, sym is)

pub cons_cases : {K : Type 0} (x : K) (xs : List K) (z : K) → Contains (x ∷ xs) z → (x ≡ z) ⊎ Contains xs z
cons_cases x xs z (zero, lt, is) = inl is
cons_cases x xs z (suc k, lt, is) = inr (k, omega arith, is)

module _ {K : Type 0} {R : K → K → Ordering} (total : IsTotalOrder R) where
  not_below_itself : (x y : K) → x ≡ y → R x y ≡ Less → ⊥
  not_below_itself x y e h =
      let tied : R x y ≡ Equal = subst (λ z. R x z ≡ Equal) e (tied_itself total x) in
      let both : Less ≡ Equal = sym h ∙ tied in
      cc

  not_both_below : (x y : K) → R x y ≡ Less → R y x ≡ Less → ⊥
  not_both_below x y h k =
      let back : Less ≡ ordering_reverse Less = sym h ∙ total.antisymm x y ∙ ap ordering_reverse k in
      cc

  above_head : (x : K) (xs : List K) (z : K) → IsStrictlySortedBy R (x ∷ xs) → Contains xs z → R x z ≡ Less
  above_head x xs z s h = All-contains (λ y. R x y ≡ Less) xs z (All-from_recursion (λ y. R x y ≡ Less) xs (sorted_head R x xs s)) h

  -- a member of the tail is not the head
  tail_apart : (x : K) (xs : List K) (z : K) → IsStrictlySortedBy R (x ∷ xs) → Contains xs z → x ≡ z → ⊥
  tail_apart x xs z s h e = not_below_itself x z e (above_head x xs z s h)

  -- what is above the head of a list that has it is in the tail
  in_tail : (y : K) (ys : List K) (z : K) → R y z ≡ Less → Contains (y ∷ ys) z → Contains ys z
  in_tail y ys z below h = ⊎_elim (λ e. absurd (not_below_itself y z e below)) (λ w. w) (cons_cases y ys z h)

  -- all members are above what is below the head
  all_above : (y x : K) (xs : List K) (z : K) → IsStrictlySortedBy R (x ∷ xs) → R y x ≡ Less → Contains (x ∷ xs) z → R y z ≡ Less
  all_above y x xs z s below h =
      ⊎_elim (λ e. subst (λ w. R y w ≡ Less) e below) (λ w. total.trans y x z below (above_head x xs z s w)) (cons_cases x xs z h)

  -- a list whose members are all in another is not longer
  pub length_within : (xs ys : List K) → IsStrictlySortedBy R xs → IsStrictlySortedBy R ys → ((z : K) → Contains xs z → Contains ys z) → length xs ≤ length ys
  length_within [] ys s t within = omega arith
  length_within (x ∷ xs) [] s t within = absurd (no_member x (within x (here x xs)))
  length_within (x ∷ xs) (y ∷ ys) s t within =
      ⊎_elim
      (λ (e : y ≡ x).
      let rest : length xs ≤ length ys = length_within xs ys (sorted_tail R x xs s) (sorted_tail R y ys t)
      (λ z w. in_tail y ys z (subst (λ v. R v z ≡ Less) (sym e) (above_head x xs z s w)) (within z (there x xs z w))) in
      let goal : length (x ∷ xs) ≤ length (y ∷ ys) = omega arith in goal)
      (λ (h : Contains ys x).
      let rest : length (x ∷ xs) ≤ length ys = length_within (x ∷ xs) ys s (sorted_tail R y ys t)
      (λ z w. in_tail y ys z (all_above y x xs z s (above_head y ys x t h) w) (within z w)) in
      let goal : length (x ∷ xs) ≤ length (y ∷ ys) = omega arith in goal)
      (cons_cases y ys x (within x (here x xs)))

  same_head : (x y : K) (xs ys : List K) → IsStrictlySortedBy R (x ∷ xs) → IsStrictlySortedBy R (y ∷ ys) → Contains (y ∷ ys) x → Contains (x ∷ xs) y → x ≡ y
  same_head x y xs ys s t h k =
      ⊎_elim
      (λ e. sym e)
      (λ v. ⊎_elim (λ e. e) (λ w. absurd (not_both_below x y (above_head x xs y s w) (above_head y ys x t v))) (cons_cases x xs y k))
      (cons_cases y ys x h)

  -- lists with the same members are the same
  pub same_members : (xs ys : List K) → IsStrictlySortedBy R xs → IsStrictlySortedBy R ys → ((z : K) → Contains xs z → Contains ys z) → ((z : K) → Contains ys z → Contains xs z) → xs ≡ ys
  same_members [] [] s t to from = refl
  same_members [] (y ∷ ys) s t to from = absurd (no_member y (from y (here y ys)))
  same_members (x ∷ xs) [] s t to from = absurd (no_member x (to x (here x xs)))
  same_members (x ∷ xs) (y ∷ ys) s t to from =
      let e : x ≡ y = same_head x y xs ys s t (to x (here x xs)) (from y (here y ys)) in
      let rest : xs ≡ ys = same_members xs ys (sorted_tail R x xs s) (sorted_tail R y ys t)
      (λ z w. in_tail y ys z (subst (λ v. R v z ≡ Less) e (above_head x xs z s w)) (to z (there x xs z w)))
      (λ z w. in_tail x xs z (subst (λ v. R v z ≡ Less) (sym e) (above_head y ys z t w)) (from z (there y ys z w))) in
      cc
