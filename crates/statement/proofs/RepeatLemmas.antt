-- Tests and lists, by what holds.
use Rattle.std.proofs.Common.{◌≡◌, ℕ, zero, suc, ◌+◌, ◌<◌, ◌≤◌, ◌⊎◌, add-one, arith, drop, get_or, Vec, ◌↔◌, Bool, true, false, not, ◌&&◌, ◌||◌, List, [], ◌∷◌, ◌++◌, length, map, take, Option, Some, None, Ok, Err, IsSomeAnd, Any, inl, inr, refl, sym, ap, subst, ◌∙◌, append_assoc, append-nil, option_map}
use Rattle.std.specs.Prelude.{codes, is_none, unwrap_or, IsSome}
use Rattle.std.specs.declared.alloc.Global.{Global}
use Rattle.std.proofs.Math.Seq.{drop-cons, take-suc}
use Rattle.std.specs.List.{slice_get}
use Rattle.std.specs.Option.{option_and_then}
use Rattle.std.specs.Result.{result_ok}
use Rattle.std.proofs.lemmas.Bool.{eq-eqb, eqb-true, false≢true, true≢false}
use Rattle.std.proofs.lemmas.List.{take-map}
use Rattle.std.proofs.lemmas.Option.{none-some, same_Some, slice_get-map}
use Rattle.toml.specs.Data.{Data, Members}
use Rattle.toml_reading.specs.Lowest.{entries_at}
use Rattle.image.specs.Labels.{Names}
use Rattle.statement.specs.declared.apart.ApartStretch.{ApartStretch}
use Rattle.statement.specs.declared.spots.TableList.TheVariants.{Targets}
use Rattle.toml_reading.specs.Lists.{HasRepeat}
use Rattle.toml_reading.proofs.LowestParts.{any_cases, any_first, any_later, any_none}
use Rattle.statement.specs.Statement.{Read}
use Rattle.statement.specs.Places.{IsRepeatAt}
use Rattle.statement.specs.PlaceTests.{IsStored, destination_repeats, entry_at, holds_of, is_among, is_number, is_set, repeats, repeats_of, tests_after, was_there}

-- ## Tests

pub and_is : {A B : Type 0} (a b : Bool) → a ≡ true ↔ A → b ≡ true ↔ B → (a && b) ≡ true ↔ (A × B)
and_is true b h k = (λ e. (h.0 refl, k.0 e), λ p. k.1 p.1)
and_is false b h k = (λ e. absurd (false≢true e), λ p. absurd (false≢true (h.1 p.0)))

pub or_is : {A B : Type 0} (a b : Bool) → a ≡ true ↔ A → b ≡ true ↔ B → (a || b) ≡ true ↔ (A ⊎ B)
or_is true b h k = (λ e. inl (h.0 refl), λ p. refl)
or_is false b h k =
    (λ e. inr (k.0 e), λ p. elim p [ inl x ↦ absurd (false≢true (h.1 x)) | inr y ↦ k.1 y ])

pub not_is : (b : Bool) → not b ≡ true ↔ (b ≡ false)
not_is true = (λ e. absurd (false≢true e), λ e. absurd (true≢false e))
not_is false = (λ e. refl, λ e. refl)

pub same_test : (b : Bool) → b ≡ true ↔ (b ≡ true)
same_test b = (λ e. e, λ e. e)

pub none_is : {A : Type 0} (o : Option A) → is_none o ≡ true ↔ (o ≡ None)
none_is None = (λ e. refl, λ e. refl)
none_is (Some a) = (λ e. absurd (false≢true e), λ e. absurd (none-some a (sym e)))

pub some_or_none : {A : Type 0} (o : Option A) → IsSome o ⊎ (o ≡ None)
some_or_none None = inr refl
some_or_none (Some a) = inl refl

pub holds_is :
    {A : Type 0} (test : A → Bool) (P : A → Type 0)
    → ((a : A) → test a ≡ true ↔ P a)
    → (o : Option A)
    → holds_of test o ≡ true ↔ IsSomeAnd o P
holds_is test P each None = (λ e. absurd (false≢true e), λ h. absurd h)
holds_is test P each (Some a) = each a

pub holds_inside :
    {A B : Type 0} (f : A → Option B) (test : B → Bool) (P : B → Type 0)
    → ((b : B) → test b ≡ true ↔ P b)
    → (o : Option A)
    → holds_of test (option_and_then f o) ≡ true ↔ IsSomeAnd o (λ a. IsSomeAnd (f a) P)
holds_inside f test P each None = (λ e. absurd (false≢true e), λ h. absurd h)
holds_inside f test P each (Some a) = holds_is test P each (f a)

pub true_unless_none : (o : Option Bool) → unwrap_or o false ≡ true ↔ (o ≡ Some true)
true_unless_none None = (λ e. absurd (false≢true e), λ e. absurd (none-some true e))
true_unless_none (Some b) = (λ e. ap Some e, λ e. same_Some b true e)

pub false_unless_none : (o : Option Bool) → not (unwrap_or o true) ≡ true ↔ (o ≡ Some false)
false_unless_none None = (λ e. absurd (false≢true e), λ e. absurd (none-some false e))
false_unless_none (Some true) = (λ e. absurd (false≢true e), λ e. absurd (true≢false (same_Some true false e)))
false_unless_none (Some false) = (λ e. refl, λ e. refl)

pub ok_is : {A : Type 0} (r : Read A) (a : A) → result_ok r ≡ Some a ↔ (r ≡ Ok a)
ok_is (Ok b) a = (λ e. ap Ok (same_Some b a e), λ e. ap result_ok e)
ok_is (Err g) a = (λ e. absurd (none-some a e), λ e. absurd (none-some a (ap result_ok e)))

-- ## Lists by their indexes

module _ {X : Type 0} (P : X → Type 0) where
  pub any_index : (xs : List X) → Any P xs → (n : ℕ) × IsSomeAnd (slice_get xs n) P
  any_index [] h = absurd (any_none P h)
  any_index (x ∷ xs) h = elim (any_cases P x xs h) [
    | inl p ↦ (zero, p)
    | inr later ↦ let at = any_index xs later in (suc at.0, at.1)
  ]

  pub index_any : (xs : List X) (n : ℕ) → IsSomeAnd (slice_get xs n) P → Any P xs
  index_any [] n h = absurd h
  index_any (x ∷ xs) zero h = any_first P x xs h
  index_any (x ∷ xs) (suc n) h = any_later P x xs (index_any xs n h)

-- ## Repeats

module _ {A : Type 0} (test : List A → A → Bool) where
  pub repeat_get :
      (before xs : List A) (n : ℕ)
      → slice_get (tests_after test before xs) n ≡ option_map (test (before ++ take n xs)) (slice_get xs n)
  unfolding tests_after
  repeat_get before [] n = refl
  repeat_get before (x ∷ xs) zero = ap (λ b. Some (test b x)) (sym (append-nil before))
  repeat_get before (x ∷ xs) (suc n) =
      repeat_get (before ++ x ∷ []) xs n
      ∙ ap (λ b. option_map (test b) (slice_get xs n)) (append_assoc before (x ∷ []) (take n xs))

module _ (Is : Data → ℕ → Type 0) (num : Data → Option ℕ) (reads : (d : Data) (a : ℕ) → num d ≡ Some a ↔ Is d a) where
  number_is : (o : Option ℕ) (a : ℕ) → is_number a o ≡ true ↔ (o ≡ Some a)
  number_is None a = (λ e. absurd (false≢true e), λ e. absurd (none-some a e))
  number_is (Some b) a = (λ e. ap Some (eqb-true b a e), λ e. eq-eqb b a (same_Some b a e))

  among_is : (ds : List Data) (a : ℕ) → is_among (map num ds) a ≡ true ↔ Any (λ e. Is e a) ds
  among_is [] a = (λ e. absurd (false≢true e), λ h. absurd (any_none (λ e. Is e a) h))
  among_is (d ∷ ds) a =
      let one = number_is (num d) a in
      let rest = among_is ds a in
      let both = or_is (is_number a (num d)) (is_among (map num ds) a) one rest in (
        λ e. elim (both.0 e) [
          | inl is ↦ any_first (λ e. Is e a) d ds ((reads d a).0 is)
          | inr later ↦ any_later (λ e. Is e a) d ds later
        ],
        λ h. both.1 (elim (any_cases (λ e. Is e a) d ds h) [ inl is ↦ inl ((reads d a).1 is) | inr later ↦ inr later ]),
      )

  there_is :
      (ds : List Data) (d : Data) (o : Option ℕ)
      → o ≡ num d
      → was_there (map num ds) o ≡ true ↔ ((a : ℕ) × Is d a × Any (λ e. Is e a) ds)
  there_is ds d None same = (λ e. absurd (false≢true e), λ h. absurd (none-some h.0 (same ∙ (reads d h.0).1 h.1)))
  there_is ds d (Some a) same = (
    λ e. (a, (reads d a).0 (sym same), (among_is ds a).0 e),
    λ h. (among_is ds a).1 (subst (λ (b : ℕ). Any (λ e. Is e b) ds) (sym (same_Some a h.0 (same ∙ (reads d h.0).1 h.1))) h.2),
  )

  set_is :
      (before : List Data) (o : Option Data)
      → unwrap_or (option_map (was_there (map num before)) (option_map num o)) false ≡ true
      ↔ ((a : ℕ) × IsSomeAnd o (λ d. Is d a) × Any (λ e. Is e a) before)
  set_is before None = (λ e. absurd (false≢true e), λ h. absurd h.1)
  set_is before (Some d) = there_is before d (num d) refl

  -- a value is one that an earlier one is, by their numbers
  pub repeat_is : (ds : List Data) (n : ℕ) → is_set (repeats (map num ds)) n ≡ true ↔ IsRepeatAt Is ds n
  repeat_is ds n =
      let get = repeat_get was_there [] (map num ds) n in
      let same : is_set (repeats (map num ds)) n ≡ unwrap_or (option_map (was_there (map num (take n ds))) (option_map num (slice_get ds n))) false =
      ap (λ o. unwrap_or o false) (get ∙ (λ i. option_map (was_there (take-map num n ds i)) (slice_get-map num ds n i))) in
      let is = set_is (take n ds) (slice_get ds n) in
      (λ e. is.0 (sym same ∙ e), λ h. same ∙ is.1 h)

module _ (Is : Data → ℕ → Type 0) where
  pub repeat_index : (ds : List Data) → HasRepeat Is ds → (n : ℕ) × IsRepeatAt Is ds n
  repeat_index [] h = absurd h
  repeat_index (d ∷ ds) (inl h) =
      let at = any_index (λ e. Is e h.0) ds h.2 in
      (suc at.0, (h.0, at.1, any_first (λ e. Is e h.0) d (take at.0 ds) h.1))
  repeat_index (d ∷ ds) (inr h) =
      let at = repeat_index ds h in
      (suc at.0, (at.1.0, at.1.1, any_later (λ e. Is e at.1.0) d (take at.0 ds) at.1.2))

  pub index_repeat : (ds : List Data) (n : ℕ) → IsRepeatAt Is ds n → HasRepeat Is ds
  index_repeat [] n h = absurd h.1
  index_repeat (d ∷ ds) zero h = absurd (any_none (λ e. Is e h.0) h.2)
  index_repeat (d ∷ ds) (suc n) h = elim (any_cases (λ e. Is e h.0) d (take n ds) h.2) [
    | inl is ↦ inl (h.0, is, index_any (λ e. Is e h.0) ds n h.1)
    | inr later ↦ inr (index_repeat ds n (h.0, h.1, later))
  ]

-- ## As they are made

pub map_twice : {A B C : Type 0} (f : B → C) (g : A → B) (xs : List A) → map (λ x. f (g x)) xs ≡ map f (map g xs)
map_twice f g [] = refl
map_twice f g (x ∷ xs) = ap (λ ys. f (g x) ∷ ys) (map_twice f g xs)

drop_past : {A : Type 0} (i : ℕ) (xs : List A) → length xs ≤ i → drop i xs ≡ []
drop_past zero [] h = refl
drop_past zero (x ∷ xs) h = absurd (omega arith)
drop_past (suc i) [] h = refl
drop_past (suc i) (x ∷ xs) h = drop_past i xs (omega arith)

pub take_next : {A : Type 0} (xs : List A) (i : ℕ) (d : A) → i < length xs → take i xs ++ get_or xs i d ∷ [] ≡ take (i + 1) xs
take_next xs i d low = sym (rw add-one (take-suc xs i d low))

module _ {A : Type 0} (test : List A → A → Bool) where
  tests_rest :
      (before xs : List A) (x : A)
      → tests_after test before (x ∷ xs) ≡ test before x ∷ tests_after test (before ++ x ∷ []) xs
  unfolding tests_after
  tests_rest before xs x = refl

  tests_none : (before : List A) → tests_after test before [] ≡ []
  unfolding tests_after
  tests_none before = refl

  -- no value more
  pub all_tested :
      (xs : List A) (tests : List Bool) (i : ℕ)
      → length xs ≤ i
      → tests ++ tests_after test (take i xs) (drop i xs) ≡ tests_after test [] xs
      → tests ≡ tests_after test [] xs
  all_tested xs tests i past h =
      sym (append-nil tests)
      ∙ sym (ap (λ ys. tests ++ ys) (ap (tests_after test (take i xs)) (drop_past i xs past) ∙ tests_none (take i xs)))
      ∙ h

  -- one value more
  pub tests_more :
      (xs : List A) (tests : List Bool) (i : ℕ) (d : A) (known : Bool)
      → i < length xs
      → known ≡ test (take i xs) (get_or xs i d)
      → tests ++ tests_after test (take i xs) (drop i xs) ≡ tests_after test [] xs
      → (tests ++ known ∷ []) ++ tests_after test (take (i + 1) xs) (drop (i + 1) xs) ≡ tests_after test [] xs
  tests_more xs tests i d known low is h =
      let rest : drop i xs ≡ get_or xs i d ∷ drop (i + 1) xs = rw add-one (drop-cons xs i d low) in
      let front = sym (take_next xs i d low) in
      append_assoc tests (known ∷ []) (tests_after test (take (i + 1) xs) (drop (i + 1) xs))
      ∙ ap (λ ys. tests ++ ys) (
      (λ j. is j ∷ tests_after test (front j) (drop (i + 1) xs))
      ∙ sym (tests_rest (take i xs) (drop (i + 1) xs) (get_or xs i d))
      ∙ ap (tests_after test (take i xs)) (sym rest)
      )
      ∙ h

module _ (names : Names) (ms : Members) (targets accesses rules multiplies branches : List Bool) (rows : List (Vec Bool Global)) (apart : Option (List ApartStretch)) where
  tests_of : (o : Option Data) → unwrap_or (option_map (destination_repeats names) o) [] ≡ repeats_of names o
  tests_of None = refl
  tests_of (Some d) = refl

  -- the tests of a target's destinations
  pub row_is :
      IsStored names ms targets accesses rules multiplies branches rows apart
      → (n : ℕ) (o : Option (Vec Bool Global))
      → o ≡ slice_get rows n
      → unwrap_or (option_map (λ v. v.items) o) [] ≡ repeats_of names (entry_at Targets n ms)
  row_is stored n o is =
      ap (λ (p : Option (Vec Bool Global)). unwrap_or (option_map (λ v. v.items) p) []) is
      ∙ ap (λ (p : Option (List Bool)). unwrap_or p []) (
      sym (slice_get-map (λ v. v.items) rows n)
      ∙ ap (λ (ys : List (List Bool)). slice_get ys n) stored.destinations_known
      ∙ slice_get-map (destination_repeats names) (entries_at (codes "target") ms) n
      )
      ∙ tests_of (entry_at Targets n ms)
