-- Two tests that agree on a list, by what each of them leaves of it.
use Rattle.std.proofs.Common.{◌≡◌, ◌∙◌, ◌≤◌, Bool, true, false, ◌&&◌, eqb, if◌then◌else◌, List, [], ◌∷◌, length, refl, sym, arith}
use Rattle.std.specs.Bool.{beq}
use Rattle.std.specs.Cmp.{both_ways}
use Rattle.std.specs.List.{filter, list_all}
use Rattle.std.proofs.lemmas.Bool.{and_from, and_parts, eq-eqb, eqb-true}

module _ {X : Type 0} (p q : X → Bool) where
  abbrev pub agree : List X → Bool
  agree xs = list_all (λ x. beq (p x) (q x)) xs

  fewer_if : (a b : Bool) (x : X) (fp fq : List X) → q x ≡ b → (list_all q fp ≡ true → length fp ≤ length fq) → list_all q (if a then x ∷ fp else fp) ≡ true
      → length (if a then x ∷ fp else fp) ≤ length (if b then x ∷ fq else fq)
  fewer_if true true x fp fq is rest all = omega (arith, rest (and_parts (q x) (list_all q fp) all).1)
  fewer_if true false x fp fq is rest all = let differs : false ≡ true = sym is ∙ (and_parts (q x) (list_all q fp) all).0 in absurd cc
  fewer_if false true x fp fq is rest all = omega (arith, rest all)
  fewer_if false false x fp fq is rest all = rest all

  fewer : (xs : List X) → list_all q (filter p xs) ≡ true → length (filter p xs) ≤ length (filter q xs)
  fewer [] all = omega arith
  fewer (x ∷ xs) all = fewer_if (p x) (q x) x (filter p xs) (filter q xs) refl (fewer xs) all

  -- as many, and all that the one leaves pass the other
  agree_if : (a b : Bool) (x : X) (xs : List X) → q x ≡ b → (length (filter p xs) ≡ length (filter q xs) → list_all q (filter p xs) ≡ true → agree xs ≡ true)
      → length (if a then x ∷ filter p xs else filter p xs) ≡ length (if b then x ∷ filter q xs else filter q xs) → list_all q (if a then x ∷ filter p xs else filter p xs) ≡ true
      → (beq a b && agree xs) ≡ true
  agree_if true true x xs is rest many all = rest (omega (arith, many)) (and_parts (q x) (list_all q (filter p xs)) all).1
  agree_if true false x xs is rest many all = let differs : false ≡ true = sym is ∙ (and_parts (q x) (list_all q (filter p xs)) all).0 in absurd cc
  agree_if false true x xs is rest many all = absurd (omega (arith, many, fewer xs all))
  agree_if false false x xs is rest many all = rest many all

  agree_from : (xs : List X) → length (filter p xs) ≡ length (filter q xs) → list_all q (filter p xs) ≡ true → agree xs ≡ true
  agree_from [] many all = refl
  agree_from (x ∷ xs) many all = agree_if (p x) (q x) x xs refl (agree_from xs) many all

  -- tests that agree leave as many, which pass both
  left_if : (a b : Bool) (x : X) (xs : List X) → q x ≡ b → (length (filter p xs) ≡ length (filter q xs)) × (list_all q (filter p xs) ≡ true) → beq a b ≡ true
      → (length (if a then x ∷ filter p xs else filter p xs) ≡ length (if b then x ∷ filter q xs else filter q xs)) × (list_all q (if a then x ∷ filter p xs else filter p xs) ≡ true)
  left_if true true x xs is rest same = (omega (arith, rest.0), and_from (q x) (list_all q (filter p xs)) is rest.1)
  left_if true false x xs is rest same = absurd cc
  left_if false true x xs is rest same = absurd cc
  left_if false false x xs is rest same = rest

  left_by : (xs : List X) → agree xs ≡ true → (length (filter p xs) ≡ length (filter q xs)) × (list_all q (filter p xs) ≡ true)
  left_by [] same = (refl, refl)
  left_by (x ∷ xs) same = let both = and_parts (beq (p x) (q x)) (agree xs) same in left_if (p x) (q x) x xs refl (left_by xs both.1) both.0

  pub agree_is : (xs : List X) → (eqb (length (filter p xs)) (length (filter q xs)) && list_all q (filter p xs)) ≡ agree xs
  agree_is xs = both_ways (eqb (length (filter p xs)) (length (filter q xs)) && list_all q (filter p xs)) (agree xs)
      (λ both. let parts = and_parts (eqb (length (filter p xs)) (length (filter q xs))) (list_all q (filter p xs)) both in agree_from xs (eqb-true (length (filter p xs)) (length (filter q xs)) parts.0) parts.1)
      (λ same. let parts = left_by xs same in and_from (eqb (length (filter p xs)) (length (filter q xs))) (list_all q (filter p xs)) (eq-eqb (length (filter p xs)) (length (filter q xs)) parts.0) parts.1)

  -- the same after another test that passes
  pub together_by : (same r : Bool) (xs : List X) → same ≡ true → r ≡ (eqb (length (filter p xs)) (length (filter q xs)) && list_all q (filter p xs)) → r ≡ (same && agree xs)
  together_by true r xs is r_is = r_is ∙ agree_is xs
  together_by false r xs is r_is = absurd cc
