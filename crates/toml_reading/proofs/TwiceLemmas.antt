-- Values of a list that occur twice, and the numbers that are read of them.
use Rattle.std.proofs.Common.{◌≡◌, ℕ, ◌↔◌, ◌≤◌, true, false, not, eqb, nat_eq, List, [], ◌∷◌, length, Option, Some, None, Any, IsSomeAnd, MatchOption, inl, inr, refl, sym, ap, subst, ◌∙◌}
use Rattle.std.specs.List.{AllZip, list_any}
use Rattle.std.specs.Map.{keys_of}
use Rattle.std.proofs.Math.Bool.{and-false, or-true}
use Rattle.std.proofs.lemmas.Bool.{cases_Bool, eq-eqb, eqb-true, false≢true, true≢false}
use Rattle.toml.specs.Data.{Data}
use Rattle.toml_reading.specs.Documents.{are_distinct, items_at}
use Rattle.toml_reading.specs.Lists.{IsListUpTo, HasRepeat}
use Rattle.toml_reading.proofs.LowestParts.{any_cases, any_first, any_later, any_none}

module _ (Is : Data → ℕ → Type 0) (one : (d : Data) (n m : ℕ) → Is d n → Is d m → n ≡ m) where
  found :
      (ds : List Data) (ns : List ℕ) (k : ℕ)
      → AllZip Is ds ns
      → list_any (nat_eq k) ns ≡ true
      → Any (λ e. Is e k) ds
  found [] [] k z h = absurd (false≢true h)
  found [] (n ∷ ns) k z h = absurd z
  found (d ∷ ds) [] k z h = absurd z
  found (d ∷ ds) (n ∷ ns) k z h = elim (cases_Bool (eqb k n)) [
    | inl same ↦ any_first (λ e. Is e k) d ds (subst (λ (m : ℕ). Is d m) (sym (eqb-true k n same)) z.0)
    | inr other ↦ any_later (λ e. Is e k) d ds (found ds ns k z.1 (rw other at h))
  ]

  listed :
      (ds : List Data) (ns : List ℕ) (k : ℕ)
      → AllZip Is ds ns
      → Any (λ e. Is e k) ds
      → list_any (nat_eq k) ns ≡ true
  listed [] [] k z h = absurd (any_none (λ e. Is e k) h)
  listed [] (n ∷ ns) k z h = absurd z
  listed (d ∷ ds) [] k z h = absurd z
  listed (d ∷ ds) (n ∷ ns) k z h = elim (any_cases (λ e. Is e k) d ds h) [
    | inl here ↦ rw (eq-eqb k n (one d k n here z.0)) refl
    | inr later ↦ rw (listed ds ns k z.1 later) (or-true (eqb k n))
  ]

  repeated : (ds : List Data) (ns : List ℕ) → AllZip Is ds ns → HasRepeat Is ds → are_distinct ns ≡ false
  repeated [] [] z h = absurd h
  repeated [] (n ∷ ns) z h = absurd z
  repeated (d ∷ ds) [] z h = absurd z
  repeated (d ∷ ds) (n ∷ ns) z (inl h) =
      rw (listed ds ns n z.1 (subst (λ (m : ℕ). Any (λ e. Is e m) ds) (one d h.0 n h.1 z.0) h.2)) refl
  repeated (d ∷ ds) (n ∷ ns) z (inr h) =
      rw (repeated ds ns z.1 h) (and-false (not (list_any (nat_eq n) ns)))

  twice : (ds : List Data) (ns : List ℕ) → AllZip Is ds ns → are_distinct ns ≡ false → HasRepeat Is ds
  twice [] [] z h = absurd (true≢false h)
  twice [] (n ∷ ns) z h = absurd z
  twice (d ∷ ds) [] z h = absurd z
  twice (d ∷ ds) (n ∷ ns) z h = elim (cases_Bool (list_any (nat_eq n) ns)) [
    | inl there ↦ inl (n, z.0, found ds ns n z.1 there)
    | inr new ↦ inr (twice ds ns z.1 (rw new at h))
  ]

  -- the numbers that are read are not distinct exactly where two values are of one
  pub not_distinct :
      (ds : List Data) (ns : List ℕ)
      → AllZip Is ds ns
      → are_distinct ns ≡ false ↔ HasRepeat Is ds
  not_distinct ds ns z = (twice ds ns z, repeated ds ns z)

  module _ {A : Type 0} (S : Data → ℕ × A → Type 0) (key : (d : Data) (x : ℕ × A) → S d x → Is d x.0) where
    keys_zip : (ds : List Data) (xs : List (ℕ × A)) → AllZip S ds xs → AllZip Is ds (keys_of xs)
    keys_zip [] [] z = tt
    keys_zip [] (x ∷ xs) z = absurd z
    keys_zip (d ∷ ds) [] z = absurd z
    keys_zip (d ∷ ds) (x ∷ xs) z = (key d x z.0, keys_zip ds xs z.1)

    in_items :
        (limit : ℕ) (o : Option (List Data)) (xs : List (ℕ × A))
        → IsSomeAnd o (λ ds. (length ds ≤ limit) × AllZip S ds xs)
        → are_distinct (keys_of xs) ≡ false ↔ IsSomeAnd o (HasRepeat Is)
    in_items limit None xs h = absurd h
    in_items limit (Some ds) xs h = not_distinct ds (keys_of xs) (keys_zip ds xs h.1)

    -- the same of a list of entries, which may be missing
    pub keys_not_distinct :
        (limit : ℕ) (o : Option Data) (xs : List (ℕ × A))
        → MatchOption o (xs ≡ []) (λ d. IsListUpTo limit S d xs)
        → are_distinct (keys_of xs) ≡ false ↔ IsSomeAnd o (λ d. IsSomeAnd (items_at d) (HasRepeat Is))
    keys_not_distinct limit None xs h =
        (λ e. true≢false (sym (ap (λ (ys : List (ℕ × A)). are_distinct (keys_of ys)) h) ∙ e), λ t. absurd t)
    keys_not_distinct limit (Some d) xs h = in_items limit (items_at d) xs h
