-- Breakpoints that are added and removed.
use Rattle.std.proofs.Common.{◌≡◌, ◌≢◌, ◌∙◌, ℕ, suc, ◌+◌, ◌<◌, ◌≤◌, Bool, true, false, nat_lt, ◌==◌, List, []}
use Rattle.std.proofs.Common.{◌∷◌, length, take, drop, length-append, length-take, length-drop, get_or, cond}
use Rattle.std.proofs.Common.{refl, sym, ap, inl, inr, eq-eqb, ne_eqb, arith}
use Rattle.std.specs.List.{prefix_len, insert, remove}
use Rattle.std.proofs.lemmas.Bool.{cases_lt, lt-ltb, le-ltb}
use Rattle.debugger.specs.SessionState.{Ascending, IsBelow, toggled}

abbrev at : ℕ → List ℕ → ℕ
at a xs = prefix_len (λ x. nat_lt x a) xs

under : (a x : ℕ) (xs : List ℕ) → x < a → at a (x ∷ xs) ≡ suc (at a xs)
under a x xs lt = rw (lt-ltb x a lt) (omega arith)

over : (a x : ℕ) (xs : List ℕ) → a ≤ x → at a (x ∷ xs) ≡ 0
over a x xs ge = rw (le-ltb x a ge) refl

-- a breakpoint that is there
pub toggled_there : (a n : ℕ) (xs : List ℕ) → n ≡ at a xs → n < length xs → get_or xs n 0 ≡ a
    → toggled a xs ≡ remove xs n
toggled_there a n [] is lt same = absurd (omega arith)
toggled_there a n (x ∷ xs) is lt same = elim (cases_lt x a) [
  | inl less ↦
      let here : n ≡ suc (at a xs) = is ∙ under a x xs less in
      let more =
      toggled_there a (at a xs) xs refl (omega (arith, here, lt))
      (sym (ap (λ (k : ℕ). get_or (x ∷ xs) k 0) here) ∙ same) in
      rw (here, lt-ltb x a less) (ap (λ (l : List ℕ). x ∷ l) more)
  | inr ge ↦
      let here : n ≡ 0 = is ∙ over a x xs ge in
      let equal : x ≡ a = sym (ap (λ (k : ℕ). get_or (x ∷ xs) k 0) here) ∙ same in
      rw (here, le-ltb x a ge, eq-eqb x a equal) refl
]

-- one that is not there
pub toggled_new : (a n : ℕ) (xs : List ℕ) → n ≡ at a xs → (n < length xs → get_or xs n 0 ≢ a)
    → toggled a xs ≡ insert xs n a
toggled_new a n [] is other = rw is refl
toggled_new a n (x ∷ xs) is other = elim (cases_lt x a) [
  | inl less ↦
      let here : n ≡ suc (at a xs) = is ∙ under a x xs less in
      let more =
      toggled_new a (at a xs) xs refl
      (λ lt same. other (omega (arith, here, lt)) (ap (λ (k : ℕ). get_or (x ∷ xs) k 0) here ∙ same)) in
      rw (here, lt-ltb x a less) (ap (λ (l : List ℕ). x ∷ l) more)
  | inr ge ↦
      let here : n ≡ 0 = is ∙ over a x xs ge in
      let differs : x ≢ a =
      λ same. other (omega (arith, here)) (ap (λ (k : ℕ). get_or (x ∷ xs) k 0) here ∙ same) in
      rw (here, le-ltb x a ge, ne_eqb x a differs) refl
]

pub toggled_longer : (a n : ℕ) (xs : List ℕ) → n ≡ at a xs → n ≤ length xs
    → (n < length xs → get_or xs n 0 ≢ a) → length (toggled a xs) ≡ length xs + 1
toggled_longer a n xs is fits other =
    ap length (toggled_new a n xs is other)
    ∙ omega (arith, length-append (take n xs) (a ∷ drop n xs), length-take n xs, length-drop n xs, fits)

below_toggled : (b a : ℕ) (xs : List ℕ) → b < a → IsBelow b xs → Ascending xs → IsBelow b (toggled a xs)
below_toggled b a [] lt below up = lt
below_toggled b a (x ∷ xs) lt below up = elim (cases_lt x a) [
  | inl less ↦ rw (lt-ltb x a less) below
  | inr ge ↦ rw (le-ltb x a ge) (equal_or_not (x == a) refl)
]
  where
    past : (ys : List ℕ) → IsBelow x ys → IsBelow b ys
    past [] h = tt
    past (y ∷ ys) h = omega (arith, h, below)

    equal_or_not : (t : Bool) → (x == a) ≡ t → IsBelow b (cond t xs (a ∷ x ∷ xs))
    equal_or_not true is = past xs up.0
    equal_or_not false is = lt

-- ascending, as before
pub ascending_toggled : (a : ℕ) (xs : List ℕ) → Ascending xs → Ascending (toggled a xs)
ascending_toggled a [] up = (tt, tt)
ascending_toggled a (x ∷ xs) up = elim (cases_lt x a) [
  | inl less ↦ rw (lt-ltb x a less) (below_toggled x a xs less up.0 up.1, ascending_toggled a xs up.1)
  | inr ge ↦ rw (le-ltb x a ge) (equal_or_not (x == a) refl ge)
]
  where
    equal_or_not : (t : Bool) → (x == a) ≡ t → a ≤ x → Ascending (cond t xs (a ∷ x ∷ xs))
    equal_or_not true is ge = up.1
    equal_or_not false is ge = (omega (arith, ge, not_equal is), up)
      where
        not_equal : (x == a) ≡ false → x ≢ a
        not_equal e same = absurd (let t : true ≡ false = sym (eq-eqb x a same) ∙ e in cc)
