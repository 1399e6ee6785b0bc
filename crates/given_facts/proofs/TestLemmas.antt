-- Tests, tables and lists, by what holds.
use Rattle.std.proofs.Common.{◌≡◌, ℕ, zero, suc, ◌⊎◌, ◌↔◌, Bool, true, false, not, ◌&&◌, ◌||◌, List, [], ◌∷◌, map, Option, Some, None, IsSomeAnd, Any, Ordering, inl, inr, refl, sym, ap, subst, ◌∙◌}
use Rattle.std.specs.Prelude.{is_none, is_some, IsSome}
use Rattle.std.specs.Cmp.{tied_itself}
use Rattle.std.specs.Cmp.Lexicographic.{slice_cmp}
use Rattle.std.specs.declared.cmp.Ordering.TheVariants.{Less, Equal, Greater}
use Rattle.std.specs.List.{list_any, slice_get}
use Rattle.std.specs.Option.{option_and_then}
use Rattle.std.specs.Ordering.{match_ordering, nat_cmp}
use Rattle.std.proofs.Math.Bool.{and-false}
use Rattle.std.proofs.lemmas.Bool.{cases_Bool, false≢true, true≢false}
use Rattle.std.proofs.lemmas.Cmp.{nat_list_cmp_total}
use Rattle.std.proofs.lemmas.Map.Lookups.{exact_bytes}
use Rattle.std.proofs.lemmas.Option.{none-some}
use Rattle.toml.specs.Data.{Data, Members, get_member, member, no_members}
use Rattle.toml_reading.specs.Documents.{has_only_keys, is_one_of}
use Rattle.toml_reading.proofs.LowestParts.{any_cases, any_first, any_later, any_none}
use Rattle.machine_file.specs.MachinePlaceTests.{holds_of}

-- ## Tests

pub and_is : {A B : Type 0} (a b : Bool) → a ≡ true ↔ A → b ≡ true ↔ B → (a && b) ≡ true ↔ (A × B)
and_is true b h k = (λ e. (h.0 refl, k.0 e), λ p. k.1 p.1)
and_is false b h k = (λ e. absurd (false≢true e), λ p. absurd (false≢true (h.1 p.0)))

pub or_is : {A B : Type 0} (a b : Bool) → a ≡ true ↔ A → b ≡ true ↔ B → (a || b) ≡ true ↔ (A ⊎ B)
or_is true b h k = (λ e. inl (h.0 refl), λ p. refl)
or_is false b h k =
    (λ e. inr (k.0 e), λ p. elim p [ inl x ↦ absurd (false≢true (h.1 x)) | inr y ↦ k.1 y ])

pub not_is : (b : Bool) → not b ≡ true ↔ (b ≡ false)
not_is true = (λ e. absurd (false≢true e), λ e. absurd (true≢false e))
not_is false = (λ e. refl, λ e. refl)

pub unmet_is : {A : Type 0} (b : Bool) → b ≡ true ↔ A → not b ≡ true ↔ (¬ A)
unmet_is true h = (λ e. absurd (false≢true e), λ n. absurd (n (h.0 refl)))
unmet_is false h = (λ e a. false≢true (h.1 a), λ n. refl)

pub same_test : (b : Bool) → b ≡ true ↔ (b ≡ true)
same_test b = (λ e. e, λ e. e)

pub none_is : {A : Type 0} (o : Option A) → is_none o ≡ true ↔ (o ≡ None)
none_is None = (λ e. refl, λ e. refl)
none_is (Some a) = (λ e. absurd (false≢true e), λ e. absurd (none-some a (sym e)))

pub no_some_is : {A : Type 0} (o : Option A) → not (is_some o) ≡ true ↔ (o ≡ None)
no_some_is None = (λ e. refl, λ e. refl)
no_some_is (Some a) = (λ e. absurd (false≢true e), λ e. absurd (none-some a (sym e)))

pub by_way : {A B C : Type 0} → A ↔ B → B ↔ C → A ↔ C
by_way h k = (λ a. k.0 (h.0 a), λ c. h.1 (k.1 c))

pub holds_is :
    {A : Type 0} (test : A → Bool) (P : A → Type 0)
    → ((a : A) → test a ≡ true ↔ P a)
    → (o : Option A)
    → holds_of test o ≡ true ↔ IsSomeAnd o P
holds_is test P each None = (λ e. absurd (false≢true e), λ h. absurd h)
holds_is test P each (Some a) = each a

pub holds_inside :
    {A B : Type 0} (f : A → Option B) (test : B → Bool) (P : B → Type 0)
    → ((b : B) → test b ≡ true ↔ P b)
    → (o : Option A)
    → holds_of test (option_and_then f o) ≡ true ↔ IsSomeAnd o (λ a. IsSomeAnd (f a) P)
holds_inside f test P each None = (λ e. absurd (false≢true e), λ h. absurd h)
holds_inside f test P each (Some a) = holds_is test P each (f a)

pub list_any_is :
    {A : Type 0} (test : A → Bool) (P : A → Type 0)
    → ((a : A) → test a ≡ true ↔ P a)
    → (xs : List A)
    → list_any test xs ≡ true ↔ Any P xs
list_any_is test P each [] = (λ e. absurd (false≢true e), λ h. absurd (any_none P h))
list_any_is test P each (x ∷ xs) =
    let both = or_is (test x) (list_any test xs) (each x) (list_any_is test P each xs) in (
      λ e. elim (both.0 e) [ inl p ↦ any_first P x xs p | inr h ↦ any_later P x xs h ],
      λ h. both.1 (any_cases P x xs h),
    )

-- ## Options

pub in_some : {A : Type 0} (P : A → Type 0) (o : Option A) → IsSomeAnd o P → (a : A) × (o ≡ Some a) × P a
in_some P None h = absurd h
in_some P (Some a) h = (a, refl, h)

pub of_some : {A : Type 0} (P : A → Type 0) (o : Option A) (a : A) → o ≡ Some a → P a → IsSomeAnd o P
of_some P o a is h = subst (λ (p : Option _). IsSomeAnd p P) (sym is) h

-- ## Lists by their indexes

module _ {X : Type 0} (P : X → Type 0) where
  pub any_index : (xs : List X) → Any P xs → (n : ℕ) × IsSomeAnd (slice_get xs n) P
  any_index [] h = absurd (any_none P h)
  any_index (x ∷ xs) h = elim (any_cases P x xs h) [
    | inl p ↦ (zero, p)
    | inr later ↦ let at = any_index xs later in (suc at.0, at.1)
  ]

  pub index_any : (xs : List X) (n : ℕ) → IsSomeAnd (slice_get xs n) P → Any P xs
  index_any [] n h = absurd h
  index_any (x ∷ xs) zero h = any_first P x xs h
  index_any (x ∷ xs) (suc n) h = any_later P x xs (index_any xs n h)

-- ## Keys that a table may not have

module _ (keys : List (List ℕ)) where
  later_by : (o : Ordering) (x : Option Data) (d : Data) → IsSome x → IsSome (match_ordering o x (Some d) x)
  later_by Less x d h = h
  later_by Equal x d h = refl
  later_by Greater x d h = h

  first_by : (o : Ordering) (x : Option Data) (d : Data) → o ≡ Equal → IsSome (match_ordering o x (Some d) x)
  first_by o x d is = ap (λ p. is_some (match_ordering p x (Some d) x)) is

  pub unknown_of :
      (ms : Members)
      → has_only_keys keys ms ≡ false
      → (k : List ℕ) × IsSome (get_member k ms) × (is_one_of keys k ≡ false)
  unknown_of no_members e = absurd (true≢false e)
  unknown_of (member l d ms) e = elim (cases_Bool (is_one_of keys l)) [
    | inl known ↦ let u = unknown_of ms (rw known at e) in (u.0, later_by (slice_cmp nat_cmp u.0 l) (get_member u.0 ms) d u.1, u.2)
    | inr unknown ↦ (l, first_by (slice_cmp nat_cmp l l) (get_member l ms) d (tied_itself nat_list_cmp_total l), unknown)
  ]

  pub of_unknown :
      (ms : Members) (k : List ℕ)
      → IsSome (get_member k ms)
      → is_one_of keys k ≡ false
      → has_only_keys keys ms ≡ false
  of_unknown no_members k s u = absurd (false≢true s)
  of_unknown (member l d ms) k s u =
      by_order (slice_cmp nat_cmp k l) refl s
      (λ h. ap (λ b. is_one_of keys l && b) (of_unknown ms k h u) ∙ and-false (is_one_of keys l))
    where
      by_order :
          (o : Ordering)
          → o ≡ slice_cmp nat_cmp k l
          → IsSome (match_ordering o (get_member k ms) (Some d) (get_member k ms))
          → (IsSome (get_member k ms) → (is_one_of keys l && has_only_keys keys ms) ≡ false)
          → (is_one_of keys l && has_only_keys keys ms) ≡ false
      by_order Less is h elsewhere = elsewhere h
      by_order Equal is h elsewhere =
          ap (λ b. b && has_only_keys keys ms) (ap (is_one_of keys) (sym (exact_bytes k l (sym is))) ∙ u)
      by_order Greater is h elsewhere = elsewhere h

-- ## Lists of views

pub none_if : {A : Type 0} (o : Option A) → (IsSome o → ⊥) → o ≡ None
none_if None h = refl
none_if (Some a) h = absurd (h refl)
