-- A test, what is read from a value that was read, and lists of at most so many values, against what they state and their faults.
use Rattle.std.proofs.Common.{◌≡◌, ℕ, ◌<◌, ◌≤◌, ◌⊎◌, ◌↔◌, Bool, true, false, cond, leb, List, [], length, Option, Any, Ok, Err, IsSomeAnd, MatchOption, inl, inr, refl, sym, ap, subst, arith, le_of_eq}
use Rattle.std.specs.List.{AllZip}
use Rattle.std.proofs.lemmas.Bool.{false≢true, le-leb, leb-false, leb-true, lt-leb}
use Rattle.toml.specs.Data.{Data}
use Rattle.toml_reading.specs.Documents.{items_at, list_up_to, listed, listed_up_to, tables_up_to}
use Rattle.toml_reading.specs.Lists.{IsListUpTo, ListUpToFault}
use Rattle.toml_reading.specs.Readings.{Faults, Reading, and_then}
use Rattle.toml_reading.proofs.LowestLemmas.{AnswersBy, Judges, check_judged, judged_as, optional_judged, required_judged}
use Rattle.toml_reading.proofs.LowestParts.{all_judged}

-- ## A fault for certain, and a test

module _ {F A : Type 0} (fs : Faults F) (x : F) where
  refused : AnswersBy fs (λ (a : A). ⊥) (λ f. f ≡ x) (Err x)
  refused = (λ a s. s, record { has = refl; least = λ o e. le_of_eq (ap fs.rank (sym e)) })

  pub refusal_judged : Judges fs (λ (a : A). ⊥) (λ f. f ≡ x) (Err x)
  refusal_judged = record { answers = refused }

module _ {F A : Type 0} (fs : Faults F) (P : Type 0) (a : A) (x : F) where
  tested :
      (b : Bool)
      → b ≡ true ↔ P
      → AnswersBy fs (λ c. P × (c ≡ a)) (λ f. (¬ P) × (f ≡ x)) (cond b (Ok a) (Err x))
  tested true e = (record { stated = (e.0 refl, refl); only = λ c s. s.1 }, λ f h. h.0 (e.0 refl))
  tested false e = (
    λ c s. false≢true (e.1 s.0),
    record { has = (λ p. false≢true (e.1 p), refl); least = λ o h. le_of_eq (ap fs.rank (sym h.1)) },
  )

  pub test_judged :
      (b : Bool)
      → b ≡ true ↔ P
      → Judges fs (λ c. P × (c ≡ a)) (λ f. (¬ P) × (f ≡ x)) (cond b (Ok a) (Err x))
  test_judged b e = record { answers = tested b e }

-- ## What is read from a value that was read

module _ {F A B : Type 0} (fs : Faults F) (S : A → Type 0) (T : A → B → Type 0) (H : F → Type 0) (K : A → F → Type 0) (f : A → Reading F B) (each : (a : A) → S a → Judges fs (T a) (K a) (f a)) where
  abbrev Follows : B → Type 0
  Follows b = (c : A) × S c × T c b

  abbrev FollowsFault : F → Type 0
  FollowsFault x = H x ⊎ ((c : A) × S c × K c x)

  followed :
      (a : A)
      → S a
      → ((c : A) → S c → c ≡ a)
      → ((x : F) → ¬ H x)
      → Judges fs Follows FollowsFault (f a)
  followed a s only clean =
      judged_as
      fs
      (T a)
      Follows
      (K a)
      FollowsFault
      (λ b. (λ t. (a, s, t), λ u. subst (λ (c : A). T c b) (only u.0 u.1) u.2))
      (λ x. (λ k. inr (a, s, k), λ y. elim y [ inl h ↦ absurd (clean x h) | inr u ↦ subst (λ (c : A). K c x) (only u.0 u.1) u.2 ]))
      (f a)
      (each a s)

  then_answers : (r : Reading F A) → AnswersBy fs S H r → AnswersBy fs Follows FollowsFault (and_then r f)
  then_answers (Ok a) h = (followed a h.0.stated h.0.only h.1).answers
  then_answers (Err g) h = (
    λ b s. h.0 s.0 s.1,
    record { has = inl h.1.has; least = λ o y. elim y [ inl z ↦ h.1.least o z | inr u ↦ absurd (h.0 u.0 u.1) ] },
  )

  -- the faults of the second reading are reported of the one value that is stated
  pub then_judged :
      (r : Reading F A)
      → Judges fs S H r
      → Judges fs (λ b. (c : A) × S c × T c b) (λ x. H x ⊎ ((c : A) × S c × K c x)) (and_then r f)
  then_judged r h = record { answers = then_answers r h.answers }

-- ## More faults, none lower than one that is there

module _ {F A : Type 0} (fs : Faults F) (S : A → Type 0) (H K L : F → Type 0) (to : (x : F) → K x → L x) (under : (x : F) → L x → (g : F) × (H g ⊎ K g) × (fs.rank g ≤ fs.rank x)) where
  widened_answers : (r : Reading F A) → AnswersBy fs S (λ x. H x ⊎ K x) r → AnswersBy fs S (λ x. H x ⊎ L x) r
  widened_answers (Ok a) h =
      (h.0, λ x y. elim y [ inl z ↦ h.1 x (inl z) | inr z ↦ let u = under x z in h.1 u.0 u.1 ])
  widened_answers (Err g) h = (
    h.0,
    record {
      has = elim h.1.has [ inl z ↦ inl z | inr z ↦ inr (to g z) ];
      least = λ o y. elim y [
        | inl z ↦ h.1.least o (inl z)
        | inr z ↦ let u = under o z in omega (arith, h.1.least u.0 u.1, u.2)
      ];
    },
  )

  pub widened_judged : (r : Reading F A) → Judges fs S (λ x. H x ⊎ K x) r → Judges fs S (λ x. H x ⊎ L x) r
  widened_judged r h = record { answers = widened_answers r h.answers }

module _ {F A : Type 0} (fs : Faults F) (S : A → Type 0) (H : F → Type 0) where
  stated_or_answers : (r : Reading F A) → AnswersBy fs S H r → ((a : A) × S a) ⊎ ((f : F) × H f)
  stated_or_answers (Ok a) h = inl (a, h.0.stated)
  stated_or_answers (Err g) h = inr (g, h.1.has)

  -- a value is stated, or there is a fault
  pub stated_or_faulty : (r : Reading F A) → Judges fs S H r → ((a : A) × S a) ⊎ ((f : F) × H f)
  stated_or_faulty r h = stated_or_answers r h.answers

-- ## Lists of at most so many values

module _ {F A : Type 0} (fs : Faults F) (limit : ℕ) (S : Data → A → Type 0) (H : Data → F → Type 0) (reads : Data → Reading F A) (each : (d : Data) → Judges fs (S d) (H d) (reads d)) where
  abbrev FewFault : List Data → F → Type 0
  FewFault ds f = ((limit < length ds) × (f ≡ fs.out_of_range)) ⊎ Any (λ e. H e f) ds

  pub few_judged :
      (ds : List Data)
      → Judges
      fs
      (λ xs. (length ds ≤ limit) × AllZip S ds xs)
      (λ f. ((limit < length ds) × (f ≡ fs.out_of_range)) ⊎ Any (λ e. H e f) ds)
      (listed_up_to fs limit reads ds)
  few_judged ds =
      judged_as
      fs
      (λ xs. (leb (length ds) limit ≡ true) × AllZip S ds xs)
      (λ xs. (length ds ≤ limit) × AllZip S ds xs)
      (λ f. ((leb (length ds) limit ≡ false) × (f ≡ fs.out_of_range)) ⊎ Any (λ e. H e f) ds)
      (FewFault ds)
      (λ xs. (λ h. (leb-true (length ds) limit h.0, h.1), λ h. (le-leb (length ds) limit h.0, h.1)))
      (λ f. (
        λ y. elim y [ inl h ↦ inl (leb-false (length ds) limit h.0, h.1) | inr z ↦ inr z ],
        λ y. elim y [ inl h ↦ inl (lt-leb (length ds) limit h.0, h.1) | inr z ↦ inr z ],
      ))
      (listed_up_to fs limit reads ds)
      (check_judged fs (AllZip S ds) (λ f. Any (λ e. H e f) ds) (leb (length ds) limit) fs.out_of_range (listed fs reads ds) (all_judged fs S H reads each ds))

  pub list_up_to_judged :
      (d : Data)
      → Judges fs (IsListUpTo limit S d) (ListUpToFault fs limit H d) (list_up_to fs limit reads d)
  list_up_to_judged d =
      required_judged
      fs
      (λ ds xs. (length ds ≤ limit) × AllZip S ds xs)
      FewFault
      (listed_up_to fs limit reads)
      few_judged
      (items_at d)

  pub tables_up_to_judged :
      (o : Option Data)
      → Judges
      fs
      (λ xs. MatchOption o (xs ≡ []) (λ d. IsListUpTo limit S d xs))
      (λ f. IsSomeAnd o (λ d. ListUpToFault fs limit H d f))
      (tables_up_to fs limit reads o)
  tables_up_to_judged o =
      optional_judged
      fs
      (IsListUpTo limit S)
      (ListUpToFault fs limit H)
      (list_up_to fs limit reads)
      list_up_to_judged
      []
      o
