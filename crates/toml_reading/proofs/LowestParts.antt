-- What is read of numbers, lists and tables, against what they state and their faults.
use Rattle.std.proofs.Common.{◌≡◌, ℕ, zero, suc, ◌<◌, ◌≤◌, ◌⊎◌, ◌↔◌, ℤ, pos, negsuc, Bool, true, false, cond, leb, List, [], ◌∷◌, ◌++◌, length, map, fold, Any, slice_index_or, Option, Some, None, Ok, Err, IsSomeAnd, MatchOption, unwrap_or, option_and_then, inl, inr, refl, sym, ap, subst, ◌∙◌, arith, le_of_eq, append_assoc, append-nil}
use Rattle.std.specs.List.{AllZip, cons_option}
use Rattle.std.proofs.lemmas.Bool.{leb-true, leb-false, true≢false}
use Rattle.std.proofs.lemmas.Option.{none-some, same_Some}
use Rattle.toml.specs.Data.{Data, Members, as_integer, as_str, as_table, get_member}
use Rattle.toml_reading.specs.Documents.{has_only_keys, items_at, list_at, listed, name_at, number_at, number_in, number_or, of_keys, tables_at}
use Rattle.toml_reading.specs.Lowest.{AtKey, AtKeyOr, IsListOf, IsNamed, IsNumber, IsOutside, IsTable, KeysFault, ListFault, NameFault, NumberFault, TableFault, entries_at, natural, number_of_entry, numbers_at}
use Rattle.toml_reading.specs.Readings.{Faults, Reading, after, all, pair, required, reading_map, up_to}
use Rattle.toml_reading.proofs.LowestLemmas.{AnswersBy, Judges, pair_judged, check_judged, judged_as, optional_judged, required_judged, map_judged}

-- ## Numbers

whole : ℤ → ℕ
whole (pos n) = n
whole (negsuc n) = 0

is_whole : ℤ → Bool
is_whole (pos n) = true
is_whole (negsuc n) = false

pub whole_same : (n m : ℕ) → pos n ≡ pos m → n ≡ m
unfolding whole
whole_same n m e = ap whole e

pub not_whole : (n m : ℕ) → negsuc n ≡ pos m → ⊥
unfolding is_whole
not_whole n m e = true≢false (sym (ap is_whole e))

module _ {F : Type 0} (fs : Faults F) (limit : ℕ) where
  abbrev Up : ℤ → ℕ → Type 0
  Up z n = (z ≡ pos n) × (n ≤ limit)

  abbrev UpFault : ℤ → F → Type 0
  UpFault z f = IsOutside limit z × (f ≡ fs.out_of_range)

  tested : (n : ℕ) (b : Bool) → leb n limit ≡ b
      → AnswersBy fs (Up (pos n)) (UpFault (pos n)) (cond b (Ok n) (Err fs.out_of_range))
  tested n true e =
      let low = leb-true n limit e in (
        record { stated = (refl, low); only = λ m s. sym (whole_same n m s.0) },
        λ f o. let high : limit < n = o.0 n refl in omega (arith, high, low),
      )
  tested n false e =
      let high = leb-false n limit e in (
        λ m s. let same = whole_same n m s.0 in let low = s.1 in omega (arith, same, low, high),
        record {
          has = (λ m s. let same = whole_same n m s in omega (arith, same, high), refl);
          least = λ o y. le_of_eq (ap fs.rank (sym y.1));
        },
      )

  up_to_answers : (z : ℤ) → AnswersBy fs (Up z) (UpFault z) (up_to fs limit z)
  up_to_answers (pos n) = tested n (leb n limit) refl
  up_to_answers (negsuc n) = (
    λ m s. not_whole n m s.0,
    record { has = (λ m s. absurd (not_whole n m s), refl); least = λ o y. le_of_eq (ap fs.rank (sym y.1)) },
  )

  pub number_judged : (d : Data)
      → Judges fs (IsNumber limit d) (NumberFault fs limit d) (number_at fs limit d)
  number_judged d =
      required_judged fs Up UpFault (up_to fs limit) (λ z. record { answers = up_to_answers z }) (as_integer d)

  pub number_in_judged : (key : List ℕ) (ms : Members)
      → Judges fs (λ n. AtKey key ms (λ d. IsNumber limit d n)) (λ f. AtKeyOr key ms (f ≡ fs.wrong_kind) (λ d. NumberFault fs limit d f)) (number_in fs key limit ms)
  number_in_judged key ms =
      required_judged
      fs
      (IsNumber limit)
      (NumberFault fs limit)
      (number_at fs limit)
      number_judged
      (get_member key ms)

  pub number_or_judged : (key : List ℕ) (missing : ℕ) (ms : Members)
      → Judges fs (λ n. AtKeyOr key ms (n ≡ missing) (λ d. IsNumber limit d n)) (λ f. AtKey key ms (λ d. NumberFault fs limit d f)) (number_or fs key limit missing ms)
  number_or_judged key missing ms =
      optional_judged
      fs
      (IsNumber limit)
      (NumberFault fs limit)
      (number_at fs limit)
      number_judged
      missing
      (get_member key ms)

-- ## Names

module _ {F A : Type 0} (fs : Faults F) where
  found_judged : (o : Option A)
      → Judges fs (λ a. o ≡ Some a) (λ f. (o ≡ None) × (f ≡ fs.wrong_kind)) (required fs o (λ a. Ok a))
  found_judged None = record {
    answers = (none-some, record { has = (refl, refl); least = λ o e. le_of_eq (ap fs.rank (sym e.1)) });
  }
  found_judged (Some x) = record {
    answers = (record { stated = refl; only = λ b e. sym (same_Some x b e) }, λ f h. none-some x (sym h.0));
  }

  pub named_judged : (named : List ℕ → Option A) (d : Data)
      → Judges fs (IsNamed named d) (NameFault fs named d) (name_at fs named d)
  named_judged named d = found_judged (option_and_then named (as_str d))

-- ## Tables

module _ {F A : Type 0} (fs : Faults F) (keys : List (List ℕ)) (S : Members → A → Type 0)
    (H : Members → F → Type 0) (reads : Members → Reading F A)
    (each : (ms : Members) → Judges fs (S ms) (H ms) (reads ms)) where
  pub keys_judged : (ms : Members)
      → Judges fs (λ a. (has_only_keys keys ms ≡ true) × S ms a) (KeysFault fs keys H ms) (of_keys fs keys ms (reads ms))
  keys_judged ms = check_judged fs (S ms) (H ms) (has_only_keys keys ms) fs.unknown_key (reads ms) (each ms)

  pub table_judged : (d : Data)
      → Judges fs (λ a. IsTable keys (λ ms. S ms a) d) (TableFault fs keys H d) (required fs (as_table d) (λ ms. of_keys fs keys ms (reads ms)))
  table_judged d =
      required_judged
      fs
      (λ ms a. (has_only_keys keys ms ≡ true) × S ms a)
      (KeysFault fs keys H)
      (λ ms. of_keys fs keys ms (reads ms))
      keys_judged
      (as_table d)

-- ## Lists

module _ {X : Type 0} (P : X → Type 0) where
  pub any_none : ¬ Any P []
  any_none h = let low = h.2 in omega (arith, low)

  pub any_first : (x : X) (xs : List X) → P x → Any P (x ∷ xs)
  any_first x xs p = (0, x, omega arith, refl, p)

  pub any_later : (x : X) (xs : List X) → Any P xs → Any P (x ∷ xs)
  any_later x xs h = let low : h.0 < length xs = h.2 in (suc h.0, h.1, omega (arith, low), h.3, h.4)

  any_at : (x : X) (xs : List X) (k : ℕ) (y : X) → k < length (x ∷ xs) → slice_index_or (x ∷ xs) k y ≡ y
      → P y → P x ⊎ Any P xs
  any_at x xs zero y low is p = inl (subst P (sym is) p)
  any_at x xs (suc k) y low is p = inr (k, y, omega (arith, low), is, p)

  pub any_cases : (x : X) (xs : List X) → Any P (x ∷ xs) → P x ⊎ Any P xs
  any_cases x xs h = any_at x xs h.0 h.1 h.2 h.3 h.4

  -- one of the list's values after another
  abbrev pub OneOf : List X → Type 0
  OneOf [] = ⊥
  OneOf (x ∷ xs) = P x ⊎ OneOf xs

  any_of : (xs : List X) → OneOf xs → Any P xs
  any_of [] h = absurd h
  any_of (x ∷ xs) (inl p) = any_first x xs p
  any_of (x ∷ xs) (inr h) = any_later x xs (any_of xs h)

  of_any : (xs : List X) → Any P xs → OneOf xs
  of_any [] h = absurd (any_none h)
  of_any (x ∷ xs) h = elim (any_cases x xs h) [ inl p ↦ inl p | inr a ↦ inr (of_any xs a) ]

  pub any_one_of : (xs : List X) → OneOf xs ↔ Any P xs
  any_one_of xs = (any_of xs, of_any xs)

module _ {F A : Type 0} (fs : Faults F) (S : List A → Type 0) (T : A → Type 0) (H K : F → Type 0) where
  -- all that was read, and one more
  abbrev Longer : List A → Type 0
  Longer xs = (ys : List A) × (z : A) × S ys × T z × (xs ≡ ys ++ z ∷ [])

  after_pair : (list : Reading F (List A)) (r : Reading F A)
      → after fs list r ≡ reading_map (λ p. p.0 ++ p.1 ∷ []) (pair fs list r)
  after_pair (Ok xs) (Ok a) = refl
  after_pair (Ok xs) (Err g) = refl
  after_pair (Err f) (Ok a) = refl
  after_pair (Err f) (Err g) = refl

  after_judged : (list : Reading F (List A)) (r : Reading F A) → Judges fs S H list → Judges fs T K r
      → Judges fs Longer (λ f. H f ⊎ K f) (after fs list r)
  after_judged list r h k =
      rw (after_pair list r) (map_judged fs (λ p. S p.0 × T p.1) Longer (λ f. H f ⊎ K f) (λ p. p.0 ++ p.1 ∷ []) (λ p s. (p.0, p.1, s.0, s.1, refl)) (λ xs l. ((l.0, l.1), (l.2, l.3), l.4)) (pair fs list r) (pair_judged fs S T H K list r h k))

module _ {F A X : Type 0} (fs : Faults F) (T : X → A → Type 0) (K : X → F → Type 0)
    (reads : X → Reading F A) (each : (x : X) → Judges fs (T x) (K x) (reads x)) where
  -- what is in front, and what each of the rest states
  abbrev Together : (List A → Type 0) → List X → List A → Type 0
  Together S ds xs = (ys : List A) × (zs : List A) × S ys × AllZip T ds zs × (xs ≡ ys ++ zs)

  to_front : (S : List A → Type 0) (xs ys zs : List A) → S ys → AllZip T [] zs → xs ≡ ys ++ zs → S xs
  to_front S xs ys [] s a e = subst S (sym (e ∙ append-nil ys)) s
  to_front S xs ys (z ∷ zs) s a e = absurd a

  first_more : (S : List A → Type 0) (d : X) (ds : List X) (xs ys zs : List A) → S ys → AllZip T (d ∷ ds) zs
      → xs ≡ ys ++ zs → Together (λ vs. (us : List A) × (w : A) × S us × T d w × (vs ≡ us ++ w ∷ [])) ds xs
  first_more S d ds xs ys [] s a e = absurd a
  first_more S d ds xs ys (z ∷ zs) s a e =
      (ys ++ z ∷ [], zs, (ys, z, s, a.0, refl), a.1, e ∙ sym (append_assoc ys (z ∷ []) zs))

  gathered : (ds : List X) (S : List A → Type 0) (H : F → Type 0) (list : Reading F (List A))
      → Judges fs S H list
      → Judges fs (Together S ds) (λ f. H f ⊎ Any (λ x. K x f) ds) (fold (after fs) list (map reads ds))
  gathered [] S H list h =
      judged_as
      fs
      S
      (Together S [])
      H
      (λ f. H f ⊎ Any (λ x. K x f) [])
      (λ xs. (λ s. (xs, [], s, tt, sym (append-nil xs)), λ t. to_front S xs t.0 t.1 t.2 t.3 t.4))
      (λ f. (λ y. inl y, λ y. elim y [ inl z ↦ z | inr w ↦ absurd (any_none (λ x. K x f) w) ]))
      list
      h
  gathered (d ∷ ds) S H list h =
      judged_as
      fs
      (Together (λ vs. (us : List A) × (w : A) × S us × T d w × (vs ≡ us ++ w ∷ [])) ds)
      (Together S (d ∷ ds))
      (λ f. (H f ⊎ K d f) ⊎ Any (λ x. K x f) ds)
      (λ f. H f ⊎ Any (λ x. K x f) (d ∷ ds))
      (λ xs. (
        λ t. (t.2.0, t.2.1 ∷ t.1, t.2.2, (t.2.3, t.3), t.4 ∙ ap (λ us. us ++ t.1) t.2.4 ∙ append_assoc t.2.0 (t.2.1 ∷ []) t.1),
        λ t. first_more S d ds xs t.0 t.1 t.2 t.3 t.4,
      ))
      (λ f. (
        λ y. elim y [
          | inl z ↦ elim z [ inl u ↦ inl u | inr v ↦ inr (any_first (λ x. K x f) d ds v) ]
          | inr w ↦ inr (any_later (λ x. K x f) d ds w)
        ],
        λ y. elim y [
          | inl u ↦ inl (inl u)
          | inr w ↦ elim (any_cases (λ x. K x f) d ds w) [ inl v ↦ inl (inr v) | inr z ↦ inr z ]
        ],
      ))
      (fold (after fs) (after fs list (reads d)) (map reads ds))
      (gathered ds (λ vs. (us : List A) × (w : A) × S us × T d w × (vs ≡ us ++ w ∷ [])) (λ f. H f ⊎ K d f) (after fs list (reads d)) (after_judged fs S (T d) H (K d) list (reads d) h (each d)))

  pub all_judged : (ds : List X) → Judges fs (AllZip T ds) (λ f. Any (λ x. K x f) ds) (all fs (map reads ds))
  all_judged ds =
      judged_as
      fs
      (Together (λ xs. xs ≡ []) ds)
      (AllZip T ds)
      (λ f. ⊥ ⊎ Any (λ x. K x f) ds)
      (λ f. Any (λ x. K x f) ds)
      (λ xs. (λ t. subst (AllZip T ds) (sym (t.4 ∙ ap (λ us. us ++ t.1) t.2)) t.3, λ a. ([], xs, refl, a, refl)))
      (λ f. (λ y. elim y [ inl z ↦ absurd z | inr w ↦ w ], λ w. inr w))
      (all fs (map reads ds))
      (gathered ds (λ xs. xs ≡ []) (λ f. ⊥) (Ok []) (record { answers = (record { stated = refl; only = λ ys e. e }, λ f z. z) }))

module _ {F A : Type 0} (fs : Faults F) (S : Data → A → Type 0) (H : Data → F → Type 0)
    (reads : Data → Reading F A) (each : (d : Data) → Judges fs (S d) (H d) (reads d)) where
  pub list_judged : (d : Data) → Judges fs (IsListOf S d) (ListFault fs H d) (list_at fs reads d)
  list_judged d =
      required_judged
      fs
      (AllZip S)
      (λ ds f. Any (λ e. H e f) ds)
      (listed fs reads)
      (all_judged fs S H reads each)
      (items_at d)

  pub tables_judged : (key : List ℕ) (ms : Members)
      → Judges fs (λ xs. AtKeyOr key ms (xs ≡ []) (λ d. IsListOf S d xs)) (λ f. AtKey key ms (λ d. ListFault fs H d f)) (tables_at fs reads (get_member key ms))
  tables_judged key ms =
      optional_judged fs (IsListOf S) (ListFault fs H) (list_at fs reads) list_judged [] (get_member key ms)

-- ## The numbers at a key of a list's tables

module _ {A : Type 0} (S : Data → A → Type 0) where
  items_state : (o : Option (List Data)) (xs : List A) → IsSomeAnd o (λ ds. AllZip S ds xs)
      → AllZip S (unwrap_or o []) xs
  items_state None xs h = absurd h
  items_state (Some ds) xs h = h

  entries_state_of : (o : Option Data) (xs : List A) → MatchOption o (xs ≡ []) (λ d. IsListOf S d xs)
      → AllZip S (unwrap_or (option_and_then items_at o) []) xs
  entries_state_of None xs h = rw h tt
  entries_state_of (Some d) xs h = items_state (items_at d) xs h

  -- the entries at a key state what is read of them
  pub entries_state : (key : List ℕ) (ms : Members) (xs : List A)
      → AtKeyOr key ms (xs ≡ []) (λ d. IsListOf S d xs) → AllZip S (entries_at key ms) xs
  entries_state key ms xs h = entries_state_of (get_member key ms) xs h

  -- their numbers at a key
  pub numbers_read : (key : List ℕ) (f : A → ℕ)
      → ((d : Data) (x : A) → S d x → number_of_entry key d ≡ Some (f x)) → (ds : List Data) (xs : List A)
      → AllZip S ds xs → numbers_at key ds ≡ map f xs
  numbers_read key f each [] [] h = refl
  numbers_read key f each [] (x ∷ xs) h = absurd h
  numbers_read key f each (d ∷ ds) [] h = absurd h
  numbers_read key f each (d ∷ ds) (x ∷ xs) h =
      ap (λ o. cons_option o (numbers_at key ds)) (each d x h.0) ∙ ap (λ ns. f x ∷ ns) (numbers_read key f each ds xs h.1)

module _ (limit n : ℕ) where
  natural_read : (o : Option ℤ) → IsSomeAnd o (λ z. (z ≡ pos n) × (n ≤ limit))
      → option_and_then natural o ≡ Some n
  natural_read None h = absurd h
  natural_read (Some z) h = ap natural h.0

  value_read : (o : Option Data) → IsSomeAnd o (λ d. IsNumber limit d n)
      → option_and_then natural (option_and_then as_integer o) ≡ Some n
  value_read None h = absurd h
  value_read (Some d) h = natural_read (as_integer d) h

  entry_read : (key : List ℕ) (o : Option Members)
      → IsSomeAnd o (λ ms. AtKey key ms (λ d. IsNumber limit d n))
      → option_and_then natural (option_and_then as_integer (option_and_then (get_member key) o)) ≡ Some n
  entry_read key None h = absurd h
  entry_read key (Some ms) h = value_read (get_member key ms) h

  -- the number at a key of a table
  pub number_read : (key : List ℕ) (d : Data)
      → IsSomeAnd (as_table d) (λ ms. AtKey key ms (λ e. IsNumber limit e n))
      → number_of_entry key d ≡ Some n
  number_read key d h = entry_read key (as_table d) h

pub some_weaker : {X : Type 0} (P Q : X → Type 0) → ((x : X) → P x → Q x) → (o : Option X) → IsSomeAnd o P
    → IsSomeAnd o Q
some_weaker P Q to None h = absurd h
some_weaker P Q to (Some x) h = to x h
