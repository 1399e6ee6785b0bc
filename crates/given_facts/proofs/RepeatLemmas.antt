-- Numbers of entries that earlier entries have.
use Rattle.std.proofs.Common.{◌≡◌, ℕ, zero, suc, ◌+◌, ◌<◌, ◌≤◌, ◌⊎◌, add-one, arith, drop, get_or, ◌↔◌, Bool, true, false, not, List, [], ◌∷◌, ◌++◌, length, map, take, Option, Some, None, IsSomeAnd, Any, eqb, ltb, inl, inr, refl, sym, ap, subst, ◌∙◌, append_assoc, append-nil, option_map}
use Rattle.std.specs.Prelude.{filter_map, nat_eq, nat_lt, unwrap_or}
use Rattle.std.proofs.Math.Seq.{drop-cons, take-suc}
use Rattle.std.specs.List.{cons_option, list_all, list_any, slice_get}
use Rattle.std.proofs.Math.Bool.{and-false}
use Rattle.std.proofs.lemmas.Bool.{cases_Bool, eq-eqb, eqb-true, false≢true, le-ltb, ltb-false, true≢false}
use Rattle.std.proofs.lemmas.List.{take-map}
use Rattle.std.proofs.lemmas.Option.{same_Some, slice_get-map}
use Rattle.toml_reading.specs.Documents.{are_distinct}
use Rattle.toml_reading.proofs.LowestParts.{any_cases, any_first, any_later, any_none}
use Rattle.machine_file.specs.MachinePlaceTests.{is_among, is_number, is_set, repeats, repeats_after, was_there}
use Rattle.given_facts.proofs.TestLemmas.{any_index, index_any, or_is}

repeat_get :
    (before ns : List (Option ℕ)) (n : ℕ)
    → slice_get (repeats_after before ns) n ≡ option_map (was_there (before ++ take n ns)) (slice_get ns n)
unfolding repeats_after
repeat_get before [] n = refl
repeat_get before (x ∷ ns) zero = ap (λ b. Some (was_there b x)) (sym (append-nil before))
repeat_get before (x ∷ ns) (suc n) =
    repeat_get (before ++ x ∷ []) ns n
    ∙ ap (λ b. option_map (was_there b) (slice_get ns n)) (append_assoc before (x ∷ []) (take n ns))

-- ## By the numbers of values

module _ {X : Type 0} (num : X → Option ℕ) where
  -- the value has the number
  abbrev pub Has : ℕ → X → Type 0
  Has a d = IsSomeAnd (num d) (λ b. b ≡ a)

  -- the value has a number of which that holds
  abbrev pub Numbered : (ℕ → Type 0) → X → Type 0
  Numbered P d = IsSomeAnd (num d) P

  number_is : (o : Option ℕ) (a : ℕ) → is_number a o ≡ true ↔ IsSomeAnd o (λ b. b ≡ a)
  number_is None a = (λ e. absurd (false≢true e), λ h. absurd h)
  number_is (Some b) a = (λ e. eqb-true b a e, λ e. eq-eqb b a e)

  equal_is : (a b : ℕ) → eqb a b ≡ true ↔ (b ≡ a)
  equal_is a b = (λ e. sym (eqb-true a b e), λ e. eq-eqb a b (sym e))

  among_is : (ds : List X) (a : ℕ) → is_among (map num ds) a ≡ true ↔ Any (Has a) ds
  among_is [] a = (λ e. absurd (false≢true e), λ h. absurd (any_none (Has a) h))
  among_is (d ∷ ds) a =
      let both = or_is (is_number a (num d)) (is_among (map num ds) a) (number_is (num d) a) (among_is ds a) in (
        λ e. elim (both.0 e) [ inl is ↦ any_first (Has a) d ds is | inr later ↦ any_later (Has a) d ds later ],
        λ h. both.1 (any_cases (Has a) d ds h),
      )

  there_is : (ds : List X) (o : Option ℕ) → was_there (map num ds) o ≡ true ↔ IsSomeAnd o (λ a. Any (Has a) ds)
  there_is ds None = (λ e. absurd (false≢true e), λ h. absurd h)
  there_is ds (Some a) = among_is ds a

  set_is :
      (before : List X) (o : Option X)
      → unwrap_or (option_map (was_there (map num before)) (option_map num o)) false ≡ true
      ↔ IsSomeAnd o (Numbered (λ a. Any (Has a) before))
  set_is before None = (λ e. absurd (false≢true e), λ h. absurd h)
  set_is before (Some d) = there_is before (num d)

  -- a value has a number that an earlier one has
  pub repeat_is :
      (ds : List X) (n : ℕ)
      → is_set (repeats (map num ds)) n ≡ true
      ↔ IsSomeAnd (slice_get ds n) (Numbered (λ a. Any (Has a) (take n ds)))
  repeat_is ds n =
      let get = repeat_get [] (map num ds) n in
      let same : is_set (repeats (map num ds)) n ≡ unwrap_or (option_map (was_there (map num (take n ds))) (option_map num (slice_get ds n))) false =
      ap (λ o. unwrap_or o false) (get ∙ (λ i. option_map (was_there (take-map num n ds i)) (slice_get-map num ds n i))) in
      let is = set_is (take n ds) (slice_get ds n) in
      (λ e. is.0 (sym same ∙ e), λ h. same ∙ is.1 h)

-- ## As they are made

pub map_twice : {A B C : Type 0} (f : B → C) (g : A → B) (xs : List A) → map (λ x. f (g x)) xs ≡ map f (map g xs)
map_twice f g [] = refl
map_twice f g (x ∷ xs) = ap (λ ys. f (g x) ∷ ys) (map_twice f g xs)

repeats_rest :
    (before ns : List (Option ℕ)) (n : Option ℕ)
    → repeats_after before (n ∷ ns) ≡ was_there before n ∷ repeats_after (before ++ n ∷ []) ns
unfolding repeats_after
repeats_rest before ns n = refl

repeats_none : (before : List (Option ℕ)) → repeats_after before [] ≡ []
unfolding repeats_after
repeats_none before = refl

pub take_next : (xs : List (Option ℕ)) (i : ℕ) (d : Option ℕ) → i < length xs → take i xs ++ get_or xs i d ∷ [] ≡ take (i + 1) xs
take_next xs i d low = sym (rw add-one (take-suc xs i d low))

drop_past : {A : Type 0} (i : ℕ) (xs : List A) → length xs ≤ i → drop i xs ≡ []
drop_past zero [] h = refl
drop_past zero (x ∷ xs) h = absurd (omega arith)
drop_past (suc i) [] h = refl
drop_past (suc i) (x ∷ xs) h = drop_past i xs (omega arith)

-- no number more
pub all_tested :
    (xs : List (Option ℕ)) (tests : List Bool) (i : ℕ)
    → length xs ≤ i
    → tests ++ repeats_after (take i xs) (drop i xs) ≡ repeats_after [] xs
    → tests ≡ repeats xs
all_tested xs tests i past h =
    sym (append-nil tests)
    ∙ sym (ap (λ ys. tests ++ ys) (ap (repeats_after (take i xs)) (drop_past i xs past) ∙ repeats_none (take i xs)))
    ∙ h

-- one number more
pub repeats_more :
    (xs : List (Option ℕ)) (tests : List Bool) (i : ℕ) (d : Option ℕ) (known : Bool)
    → i < length xs
    → known ≡ was_there (take i xs) (get_or xs i d)
    → tests ++ repeats_after (take i xs) (drop i xs) ≡ repeats_after [] xs
    → (tests ++ known ∷ []) ++ repeats_after (take (i + 1) xs) (drop (i + 1) xs) ≡ repeats_after [] xs
repeats_more xs tests i d known low is h =
    let rest : drop i xs ≡ get_or xs i d ∷ drop (i + 1) xs = rw add-one (drop-cons xs i d low) in
    let front = sym (take_next xs i d low) in
    append_assoc tests (known ∷ []) (repeats_after (take (i + 1) xs) (drop (i + 1) xs))
    ∙ ap (λ ys. tests ++ ys) (
    (λ j. is j ∷ repeats_after (front j) (drop (i + 1) xs))
    ∙ sym (repeats_rest (take i xs) (drop (i + 1) xs) (get_or xs i d))
    ∙ ap (repeats_after (take i xs)) (sym rest)
    )
    ∙ h

-- ## In the list of the numbers

module _ {X : Type 0} (num : X → Option ℕ) where
  -- a number is one of those of the values
  pub listed_is : (ds : List X) (a : ℕ) → list_any (nat_eq a) (filter_map num ds) ≡ true ↔ Any (Has num a) ds
  listed_is [] a = (λ e. absurd (false≢true e), λ h. absurd (any_none (Has num a) h))
  listed_is (d ∷ ds) a = by_number (num d) refl (listed_is ds a)
    where
      by_number :
          (o : Option ℕ)
          → o ≡ num d
          → list_any (nat_eq a) (filter_map num ds) ≡ true ↔ Any (Has num a) ds
          → list_any (nat_eq a) (cons_option o (filter_map num ds)) ≡ true ↔ Any (Has num a) (d ∷ ds)
      by_number None is rest = (
        λ e. any_later (Has num a) d ds (rest.0 e),
        λ h. elim (any_cases (Has num a) d ds h) [
          | inl here ↦ absurd (subst (λ (p : Option ℕ). IsSomeAnd p (λ b. b ≡ a)) (sym is) here)
          | inr later ↦ rest.1 later
        ],
      )
      by_number (Some b) is rest =
          let both = or_is (eqb a b) (list_any (nat_eq a) (filter_map num ds)) (equal_is num a b) rest in (
            λ e. elim (both.0 e) [
              | inl same ↦ any_first (Has num a) d ds (subst (λ (p : Option ℕ). IsSomeAnd p (λ b. b ≡ a)) is same)
              | inr later ↦ any_later (Has num a) d ds later
            ],
            λ h. both.1 (elim (any_cases (Has num a) d ds h) [
              | inl here ↦ inl (subst (λ (p : Option ℕ). IsSomeAnd p (λ b. b ≡ a)) (sym is) here)
              | inr later ↦ inr later
            ]),
          )

  abbrev IsRepeat : List X → ℕ → Type 0
  IsRepeat ds n = IsSomeAnd (slice_get ds n) (Numbered num (λ a. Any (Has num a) (take n ds)))

  -- what holds of a number holds of an equal one
  numbered_weaker : (P Q : ℕ → Type 0) → ((a : ℕ) → P a → Q a) → (o : Option ℕ) → IsSomeAnd o P → IsSomeAnd o Q
  numbered_weaker P Q each None h = absurd h
  numbered_weaker P Q each (Some a) h = each a h

  later_repeat : (d : X) (ds : List X) (n : ℕ) → IsRepeat ds n → IsRepeat (d ∷ ds) (suc n)
  later_repeat d ds n h = by_entry (slice_get ds n) h
    where
      by_entry :
          (o : Option X)
          → IsSomeAnd o (Numbered num (λ a. Any (Has num a) (take n ds)))
          → IsSomeAnd o (Numbered num (λ a. Any (Has num a) (d ∷ take n ds)))
      by_entry None h = absurd h
      by_entry (Some e) h =
          numbered_weaker (λ a. Any (Has num a) (take n ds)) (λ a. Any (Has num a) (d ∷ take n ds)) (λ a. any_later (Has num a) d (take n ds)) (num e) h

  first_repeat : (d : X) (ds : List X) (a : ℕ) → Has num a d → Any (Has num a) ds → (n : ℕ) × IsRepeat (d ∷ ds) n
  first_repeat d ds a here later =
      let at = any_index (Has num a) ds later in (suc at.0, by_entry at.0 (slice_get ds at.0) at.1)
    where
      by_entry :
          (n : ℕ) (o : Option X)
          → IsSomeAnd o (Has num a)
          → IsSomeAnd o (Numbered num (λ b. Any (Has num b) (d ∷ take n ds)))
      by_entry n None h = absurd h
      by_entry n (Some e) h =
          numbered_weaker (λ b. b ≡ a) (λ b. Any (Has num b) (d ∷ take n ds))
          (λ b same. any_first (Has num b) d (take n ds) (subst (λ (c : ℕ). Has num c d) (sym same) here)) (num e) h

  -- numbers that are not distinct have one that an earlier value has
  pub repeat_index : (ds : List X) → are_distinct (filter_map num ds) ≡ false → (n : ℕ) × IsRepeat ds n
  repeat_index [] e = absurd (true≢false e)
  repeat_index (d ∷ ds) e = by_number (num d) refl e (λ k. repeat_index ds k)
    where
      by_number :
          (o : Option ℕ)
          → o ≡ num d
          → are_distinct (cons_option o (filter_map num ds)) ≡ false
          → (are_distinct (filter_map num ds) ≡ false → (n : ℕ) × IsRepeat ds n)
          → (n : ℕ) × IsRepeat (d ∷ ds) n
      by_number None is e rest = let at = rest e in (suc at.0, later_repeat d ds at.0 at.1)
      by_number (Some a) is e rest = elim (cases_Bool (list_any (nat_eq a) (filter_map num ds))) [
        | inl there ↦ first_repeat d ds a (subst (λ (p : Option ℕ). IsSomeAnd p (λ b. b ≡ a)) is refl) ((listed_is ds a).0 there)
        | inr new ↦ let at = rest (rw new at e) in (suc at.0, later_repeat d ds at.0 at.1)
      ]

  abbrev RepeatIn : (before : List X) → Option X → Type 0
  RepeatIn before o = IsSomeAnd o (Numbered num (λ a. Any (Has num a) before))

  pub index_repeat : (ds : List X) (n : ℕ) → IsRepeat ds n → are_distinct (filter_map num ds) ≡ false
  index_repeat [] n h = absurd h
  index_repeat (d ∷ ds) zero h = absurd (none_before (num d) h)
    where
      none_before : (o : Option ℕ) → IsSomeAnd o (λ a. Any (Has num a) []) → ⊥
      none_before None h = h
      none_before (Some a) h = any_none (Has num a) h
  index_repeat (d ∷ ds) (suc n) h = by_number (num d) refl (λ k. index_repeat ds n k)
    where
      same_number : (a b : ℕ) (o : Option ℕ) → o ≡ Some a → IsSomeAnd o (λ c. c ≡ b) → a ≡ b
      same_number a b None is h = absurd h
      same_number a b (Some c) is h = sym (same_Some c a is) ∙ h

      later : (o : Option X) → RepeatIn (d ∷ take n ds) o → num d ≡ None → RepeatIn (take n ds) o
      later None h none = absurd h
      later (Some e) h none =
          numbered_weaker (λ a. Any (Has num a) (d ∷ take n ds)) (λ a. Any (Has num a) (take n ds))
          (λ a some. elim (any_cases (Has num a) d (take n ds) some) [
            | inl here ↦ absurd (subst (λ (p : Option ℕ). IsSomeAnd p (λ b. b ≡ a)) none here)
            | inr rest ↦ rest
          ])
          (num e) h

      -- an entry after it has its number, or one that is between them
      split : (a : ℕ) → num d ≡ Some a → (o : Option X) → RepeatIn (d ∷ take n ds) o → IsSomeAnd o (Has num a) ⊎ RepeatIn (take n ds) o
      split a is None h = absurd h
      split a is (Some e) h = by_other (num e) h
        where
          by_other :
              (p : Option ℕ)
              → IsSomeAnd p (λ b. Any (Has num b) (d ∷ take n ds))
              → IsSomeAnd p (λ b. b ≡ a) ⊎ IsSomeAnd p (λ b. Any (Has num b) (take n ds))
          by_other None h = absurd h
          by_other (Some b) h = elim (any_cases (Has num b) d (take n ds) h) [
            | inl here ↦ inl (sym (same_number a b (num d) is here))
            | inr rest ↦ inr rest
          ]

      by_number :
          (o : Option ℕ)
          → o ≡ num d
          → (IsRepeat ds n → are_distinct (filter_map num ds) ≡ false)
          → are_distinct (cons_option o (filter_map num ds)) ≡ false
      by_number None is before = before (later (slice_get ds n) h (sym is))
      by_number (Some a) is before = elim (split a (sym is) (slice_get ds n) h) [
        | inl same ↦ rw ((listed_is ds a).1 (index_any (Has num a) ds n same)) refl
        | inr rest ↦ rw (before rest) (and-false (not (list_any (nat_eq a) (filter_map num ds))))
      ]
