-- Readings, each against what is stated and the faults that are there.
use Rattle.std.proofs.Common.{◌≡◌, ℕ, ◌≤◌, ◌⊎◌, ◌↔◌, Bool, true, false, cond, leb, Option, Some, None, Ok, Err, IsSomeAnd, MatchOption, inl, inr, refl, sym, ap, ◌∙◌, arith, le_of_eq, le_antisymm}
use Rattle.std.proofs.lemmas.Bool.{leb-true, leb-false, true≢false, false≢true}
use Rattle.std.specs.Result.{is_ok}
use Rattle.toml_reading.specs.Lowest.{IsLowest, IsOnly}
use Rattle.toml_reading.specs.Readings.{Faults, Reading, and_then, pair, check, lower, optional, required, reading_map}

-- what a reading reports: all that is stated and no fault, or that nothing is stated and the lowest fault
abbrev pub AnswersBy : {F A : Type 0} → Faults F → (A → Type 0) → (F → Type 0) → Reading F A → Type 0
AnswersBy fs S H (Ok a) = IsOnly S a × ((f : _) → ¬ H f)
AnswersBy fs S H (Err g) = ((a : _) → ¬ S a) × IsLowest fs H g

pub record Judges {F A : Type 0} (fs : Faults F) (S : A → Type 0) (H : F → Type 0) (r : Reading F A) : Type 0 where
  pub answers : AnswersBy fs S H r

-- no two faults have one rank, where each is known by its rank
pub one_by_rank : {F : Type 0} (fs : Faults F) (at : ℕ → F) → ((f : F) → at (fs.rank f) ≡ f) → (f g : F)
    → fs.rank f ≡ fs.rank g → f ≡ g
one_by_rank fs at back f g e = sym (back f) ∙ ap at e ∙ back g

-- ## What a reading returns

ok_of : {F A : Type 0} → A → Reading F A → A
ok_of a (Ok b) = b
ok_of a (Err g) = a

err_of : {F A : Type 0} → F → Reading F A → F
err_of f (Ok b) = f
err_of f (Err g) = g

module _ {F A : Type 0} (fs : Faults F) (S : A → Type 0) (H : F → Type 0) where
  answers_value : (r : Reading F A) (a : A) → AnswersBy fs S H r → r ≡ Ok a ↔ S a
  unfolding ok_of
  answers_value (Ok b) a h =
      (λ e. subst_value b a (ap (ok_of b) e) h.0.stated, λ s. ap (λ (x : A). Ok x) (sym (h.0.only a s)))
    where
      subst_value : (b a : A) → b ≡ a → S b → S a
      subst_value b a e s = rw e at s
  answers_value (Err g) a h = (λ e. absurd (false≢true (ap is_ok e)), λ s. absurd (h.0 a s))

  answers_fault : ((f g : F) → fs.rank f ≡ fs.rank g → f ≡ g) → (r : Reading F A) (f : F) → AnswersBy fs S H r
      → r ≡ Err f ↔ IsLowest fs H f
  unfolding err_of
  answers_fault one (Ok b) f h = (λ e. absurd (true≢false (ap is_ok e)), λ l. absurd (h.1 f l.has))
  answers_fault one (Err g) f h = (
    λ e. subst_fault g f (ap (err_of g) e) h.1,
    λ l. ap (λ (x : F). Err x) (one g f (le_antisymm (h.1.least f l.has) (l.least g h.1.has))),
  )
    where
      subst_fault : (g f : F) → g ≡ f → IsLowest fs H g → IsLowest fs H f
      subst_fault g f e l = rw e at l

  -- the value that a reading returns is the one that is stated
  pub judged_value : (r : Reading F A) → Judges fs S H r → (a : A) → r ≡ Ok a ↔ S a
  judged_value r h a = answers_value r a h.answers

  -- the fault that a reading returns is the lowest, where faults differ in rank
  pub judged_fault : ((f g : F) → fs.rank f ≡ fs.rank g → f ≡ g) → (r : Reading F A) → Judges fs S H r
      → (f : F) → r ≡ Err f ↔ IsLowest fs H f
  judged_fault one r h f = answers_fault one r f h.answers

  answers_one : (r : Reading F A) (a b : A) → AnswersBy fs S H r → S a → S b → a ≡ b
  answers_one (Ok c) a b h s t = h.0.only a s ∙ sym (h.0.only b t)
  answers_one (Err g) a b h s t = absurd (h.0 a s)

  -- one value is stated at most
  pub judged_one : (r : Reading F A) → Judges fs S H r → (a b : A) → S a → S b → a ≡ b
  judged_one r h a b s t = answers_one r a b h.answers s t

-- ## In other words

module _ {F A B : Type 0} (fs : Faults F) (S : A → Type 0) (T : B → Type 0) (H : F → Type 0) (f : A → B)
    (to : (a : A) → S a → T (f a)) (back : (b : B) → T b → (a : A) × S a × (b ≡ f a)) where
  map_answers : (r : Reading F A) → AnswersBy fs S H r → AnswersBy fs T H (reading_map f r)
  map_answers (Ok a) h =
      (record { stated = to a h.0.stated; only = λ b t. let p = back b t in p.2 ∙ ap f (h.0.only p.0 p.1) }, h.1)
  map_answers (Err g) h = (λ b t. let p = back b t in h.0 p.0 p.1, h.1)

  -- a function of the value
  pub map_judged : (r : Reading F A) → Judges fs S H r → Judges fs T H (reading_map f r)
  map_judged r h = record { answers = map_answers r h.answers }

module _ {F A : Type 0} (fs : Faults F) (S T : A → Type 0) (H K : F → Type 0) (values : (a : A) → S a ↔ T a)
    (faults : (f : F) → H f ↔ K f) where
  answers_as : (r : Reading F A) → AnswersBy fs S H r → AnswersBy fs T K r
  answers_as (Ok a) h =
      (record { stated = (values a).0 h.0.stated; only = λ b t. h.0.only b ((values b).1 t) }, λ f k. h.1 f ((faults f).1 k))
  answers_as (Err g) h =
      (λ a t. h.0 a ((values a).1 t), record { has = (faults g).0 h.1.has; least = λ o k. h.1.least o ((faults o).1 k) })

  -- the same said otherwise
  pub judged_as : (r : Reading F A) → Judges fs S H r → Judges fs T K r
  judged_as r h = record { answers = answers_as r h.answers }

-- ## Values that are tested

module _ {F A : Type 0} (fs : Faults F) (a : A) (m : Bool) (U : Type 0) (u : m ≡ false ↔ U) where
  one_test_answers : (e : F) (b : Bool) → m ≡ b
      → AnswersBy fs (λ c. (c ≡ a) × (m ≡ true)) (λ f. U × (f ≡ e)) (cond b (Ok a) (Err e))
  one_test_answers e true is =
      (record { stated = (refl, is); only = λ c s. s.0 }, λ f x. false≢true (sym (u.1 x.0) ∙ is))
  one_test_answers e false is = (
    λ c s. false≢true (sym is ∙ s.1),
    record { has = (u.0 is, refl); least = λ o x. le_of_eq (ap fs.rank (sym x.1)) },
  )

  -- a value with one test, that fails where U holds
  pub one_test : (e : F) → Judges fs (λ c. (c ≡ a) × (m ≡ true)) (λ f. U × (f ≡ e)) (cond m (Ok a) (Err e))
  one_test e = record { answers = one_test_answers e m refl }

  module _ (n : Bool) (W : Type 0) (w : n ≡ false ↔ W) (d e : F) (le : fs.rank d ≤ fs.rank e) where
    two_tests_answers : (b c : Bool) → m ≡ b → n ≡ c
        → AnswersBy fs (λ x. (x ≡ a) × (m ≡ true) × (n ≡ true)) (λ f. (U × (f ≡ d)) ⊎ (W × (f ≡ e))) (cond b (cond c (Ok a) (Err e)) (Err d))
    two_tests_answers true true is also = (
      record { stated = (refl, is, also); only = λ x s. s.0 },
      λ f x. elim x [ inl y ↦ false≢true (sym (u.1 y.0) ∙ is) | inr y ↦ false≢true (sym (w.1 y.0) ∙ also) ],
    )
    two_tests_answers true false is also = (
      λ x s. false≢true (sym also ∙ s.2),
      record {
        has = inr (w.0 also, refl);
        least =
            λ o x. elim x [ inl y ↦ absurd (false≢true (sym (u.1 y.0) ∙ is)) | inr y ↦ le_of_eq (ap fs.rank (sym y.1)) ];
      },
    )
    two_tests_answers false c is also = (
      λ x s. false≢true (sym is ∙ s.1),
      record {
        has = inl (u.0 is, refl);
        least = λ o x. elim x [
          | inl y ↦ le_of_eq (ap fs.rank (sym y.1))
          | inr y ↦ let r : fs.rank o ≡ fs.rank e = ap fs.rank y.1 in omega (arith, r, le)
        ];
      },
    )

    -- a value with two tests, of which the first that fails is reported
    pub two_tests : Judges fs (λ x. (x ≡ a) × (m ≡ true) × (n ≡ true)) (λ f. (U × (f ≡ d)) ⊎ (W × (f ≡ e))) (cond m (cond n (Ok a) (Err e)) (Err d))
    two_tests = record { answers = two_tests_answers m n refl refl }

-- ## A value that is there, and one that may be missing

module _ {F A X : Type 0} (fs : Faults F) (S : X → A → Type 0) (H : X → F → Type 0) (f : X → Reading F A)
    (each : (x : X) → Judges fs (S x) (H x) (f x)) where
  required_answers : (o : Option X)
      → AnswersBy fs (λ a. IsSomeAnd o (λ x. S x a)) (λ g. MatchOption o (g ≡ fs.wrong_kind) (λ x. H x g)) (required fs o f)
  required_answers None = (λ a s. s, record { has = refl; least = λ o e. le_of_eq (ap fs.rank (sym e)) })
  required_answers (Some x) = (each x).answers

  pub required_judged : (o : Option X)
      → Judges fs (λ a. IsSomeAnd o (λ x. S x a)) (λ g. MatchOption o (g ≡ fs.wrong_kind) (λ x. H x g)) (required fs o f)
  required_judged o = record { answers = required_answers o }

  optional_answers : (missing : A) (o : Option X)
      → AnswersBy fs (λ a. MatchOption o (a ≡ missing) (λ x. S x a)) (λ g. IsSomeAnd o (λ x. H x g)) (optional missing o f)
  optional_answers missing None = (record { stated = refl; only = λ b e. e }, λ g h. h)
  optional_answers missing (Some x) = (each x).answers

  pub optional_judged : (missing : A) (o : Option X)
      → Judges fs (λ a. MatchOption o (a ≡ missing) (λ x. S x a)) (λ g. IsSomeAnd o (λ x. H x g)) (optional missing o f)
  optional_judged missing o = record { answers = optional_answers missing o }

-- ## One more condition, and two parts

module _ {F : Type 0} (fs : Faults F) (H K : F → Type 0) (f g : F) (h : IsLowest fs H f)
    (k : IsLowest fs K g) where
  by_order : (b : Bool) → leb (fs.rank f) (fs.rank g) ≡ b → IsLowest fs (λ x. H x ⊎ K x) (cond b f g)
  by_order true e = record {
    has = inl h.has;
    least = λ o x. elim x [
      | inl y ↦ h.least o y
      | inr z ↦ omega (arith, leb-true (fs.rank f) (fs.rank g) e, k.least o z)
    ];
  }
  by_order false e = record {
    has = inr k.has;
    least = λ o x. elim x [
      | inl y ↦ omega (arith, leb-false (fs.rank f) (fs.rank g) e, h.least o y)
      | inr z ↦ k.least o z
    ];
  }

  pub lower_lowest : IsLowest fs (λ x. H x ⊎ K x) (lower fs f g)
  lower_lowest = by_order (leb (fs.rank f) (fs.rank g)) refl

module _ {F A : Type 0} (fs : Faults F) (S : A → Type 0) (H : F → Type 0) where
  check_answers : (b : Bool) (x : F) (r : Reading F A) → AnswersBy fs S H r
      → AnswersBy fs (λ a. (b ≡ true) × S a) (λ f. ((b ≡ false) × (f ≡ x)) ⊎ H f) (check fs b x r)
  check_answers true x (Ok a) h = (
    record { stated = (refl, h.0.stated); only = λ c s. h.0.only c s.1 },
    λ f y. elim y [ inl e ↦ true≢false e.0 | inr z ↦ h.1 f z ],
  )
  check_answers true x (Err g) h = (
    λ a s. h.0 a s.1,
    record { has = inr h.1.has; least = λ o y. elim y [ inl e ↦ absurd (true≢false e.0) | inr z ↦ h.1.least o z ] },
  )
  check_answers false x (Ok a) h = (
    λ c s. false≢true s.0,
    record { has = inl (refl, refl); least = λ o y. elim y [ inl e ↦ le_of_eq (ap fs.rank (sym e.1)) | inr z ↦ absurd (h.1 o z) ] },
  )
  check_answers false x (Err g) h = (
    λ c s. false≢true s.0,
    lower_lowest fs (λ f. (false ≡ false) × (f ≡ x)) H x g (record { has = (refl, refl); least = λ o e. le_of_eq (ap fs.rank (sym e.1)) }) h.1,
  )

  pub check_judged : (b : Bool) (x : F) (r : Reading F A) → Judges fs S H r
      → Judges fs (λ a. (b ≡ true) × S a) (λ f. ((b ≡ false) × (f ≡ x)) ⊎ H f) (check fs b x r)
  check_judged b x r h = record { answers = check_answers b x r h.answers }

module _ {F A B : Type 0} (fs : Faults F) (S : A → Type 0) (T : B → Type 0) (H K : F → Type 0) where
  pair_answers : (a : Reading F A) (b : Reading F B) → AnswersBy fs S H a → AnswersBy fs T K b
      → AnswersBy fs (λ p. S p.0 × T p.1) (λ f. H f ⊎ K f) (pair fs a b)
  pair_answers (Ok a) (Ok b) h k = (
    record { stated = (h.0.stated, k.0.stated); only = λ p s. λ i. (h.0.only p.0 s.0 i, k.0.only p.1 s.1 i) },
    λ f x. elim x [ inl y ↦ h.1 f y | inr z ↦ k.1 f z ],
  )
  pair_answers (Ok a) (Err g) h k = (
    λ p s. k.0 p.1 s.1,
    record { has = inr k.1.has; least = λ o x. elim x [ inl y ↦ absurd (h.1 o y) | inr z ↦ k.1.least o z ] },
  )
  pair_answers (Err f) (Ok b) h k = (
    λ p s. h.0 p.0 s.0,
    record { has = inl h.1.has; least = λ o x. elim x [ inl y ↦ h.1.least o y | inr z ↦ absurd (k.1 o z) ] },
  )
  pair_answers (Err f) (Err g) h k = (λ p s. h.0 p.0 s.0, lower_lowest fs H K f g h.1 k.1)

  pub pair_judged : (a : Reading F A) (b : Reading F B) → Judges fs S H a → Judges fs T K b
      → Judges fs (λ p. S p.0 × T p.1) (λ f. H f ⊎ K f) (pair fs a b)
  pair_judged a b h k = record { answers = pair_answers a b h.answers k.answers }

-- two parts, of which all is known
pub joint : {F A B : Type 0} {fs : Faults F} {S : A → Type 0} {T : B → Type 0} {H K : F → Type 0} {a : Reading F A} {b : Reading F B}
    → Judges fs S H a → Judges fs T K b → Judges fs (λ p. S p.0 × T p.1) (λ f. H f ⊎ K f) (pair fs a b)
joint {fs = fs} {S = S} {T = T} {H = H} {K = K} {a = a} {b = b} h k = pair_judged fs S T H K a b h k

-- ## What is read from a value that was read

-- Late are the faults of the second reading, reported of what is there even where there is nothing to read it from; those of
-- the first are no higher
module _ {F A B : Type 0} (fs : Faults F) (S : A → Type 0) (H Late : F → Type 0) (T : A → B → Type 0)
    (f : A → Reading F B) (then_judged : (a : A) → S a → Judges fs (T a) Late (f a))
    (higher : (x y : F) → H x → Late y → fs.rank x ≤ fs.rank y) where
  moved : (a c : A) (b : B) → c ≡ a → T c b → T a b
  moved a c b e t = rw e at t

  followed : (a : A) (r : Reading F B) → IsOnly S a → ((x : F) → ¬ H x) → AnswersBy fs (T a) Late r
      → AnswersBy fs (λ b. (c : A) × S c × T c b) (λ x. H x ⊎ Late x) r
  followed a (Ok b) one clean h = (
    record { stated = (a, one.stated, h.0.stated); only = λ d s. h.0.only d (moved a s.0 d (one.only s.0 s.1) s.2) },
    λ x y. elim y [ inl z ↦ clean x z | inr w ↦ h.1 x w ],
  )
  followed a (Err g) one clean h = (
    λ d s. h.0 d (moved a s.0 d (one.only s.0 s.1) s.2),
    record { has = inr h.1.has; least = λ o y. elim y [ inl z ↦ absurd (clean o z) | inr w ↦ h.1.least o w ] },
  )

  and_then_answers : (r : Reading F A) → AnswersBy fs S H r
      → AnswersBy fs (λ b. (c : A) × S c × T c b) (λ x. H x ⊎ Late x) (and_then r f)
  and_then_answers (Ok a) h = followed a (f a) h.0 h.1 (then_judged a h.0.stated).answers
  and_then_answers (Err g) h = (
    λ b s. h.0 s.0 s.1,
    record { has = inl h.1.has; least = λ o y. elim y [ inl z ↦ h.1.least o z | inr w ↦ higher g o h.1.has w ] },
  )

  pub and_then_judged : (r : Reading F A) → Judges fs S H r
      → Judges fs (λ b. (c : A) × S c × T c b) (λ x. H x ⊎ Late x) (and_then r f)
  and_then_judged r h = record { answers = and_then_answers r h.answers }
