-- The words of an image as a list, and where they have memory.
use Rattle.std.proofs.Common.{◌≡◌, ◌≢◌, ◌↔◌, ℕ, ◌<◌, ◌≤◌, ◌⊎◌, ◌∙◌, true, false, [], ◌∷◌, map, Some, inl, inr, refl, sym, arith}
use Rattle.std.specs.Prelude.{All, not}
use Rattle.std.specs.List.{AllByRecursion, list_all}
use Rattle.std.proofs.lemmas.Bool.{and_parts, cases_lt, eq-eqb, le-leb, lt-ltb, ne_eqb, not-true}
use Rattle.std.proofs.lemmas.Bool.Decides.{nat_tests}
use Rattle.std.proofs.lemmas.List.Elements.{All-from_recursion, recursion_from_All}
use Rattle.image.specs.Image.{Words, is_past_ram, word_of, AreOf, IsFitted}
use Rattle.image.specs.Inside.{Ascends}

-- below where no RAM is fitted, or past it
pub before_or_past : (a : ℕ) → IsFitted a → (a < 0x2400000) ⊎ (0x3000000 ≤ a)
before_or_past a h = elim (cases_lt a 0x2400000) [
  | inl below ↦ inl below
  | inr past ↦ elim (cases_lt a 0x3000000) [
    | inl io ↦ absurd (both_true (sym (rw (le-leb 0x2400000 a past, lt-ltb a 0x3000000 io) refl) ∙ h))
    | inr high ↦ inr high
  ]
]
  where
    both_true : true ≡ false → ⊥
    both_true e = cc

pub not_past : (a : ℕ) → (a < 0x2400000) ⊎ (0x3000000 ≤ a) → IsFitted a
not_past a (inl below) = grind (arith, nat_tests)
not_past a (inr high) = grind (arith, nat_tests)

abbrev Within : Words → Type 0
Within words = list_all (λ a. not (is_past_ram a)) (map (λ e. e.0) words) ≡ true

each_fitted : (words : Words) → Within words → AllByRecursion (λ e. IsFitted e.0) words
each_fitted [] h = tt
each_fitted (e ∷ rest) h =
    let parts = and_parts (not (is_past_ram e.0)) (list_all (λ a. not (is_past_ram a)) (map (λ f. f.0) rest)) h in
    (not-true (is_past_ram e.0) parts.0, each_fitted rest parts.1)

none_past : (words : Words) → AllByRecursion (λ e. IsFitted e.0) words → Within words
none_past [] h = refl
none_past (e ∷ rest) h = rw (h.0, none_past rest h.1) refl

pub all_fitted : (words : Words) → Within words ↔ All (λ e. IsFitted e.0) words
all_fitted words = (
  (λ h. All-from_recursion (λ (e : ℕ × ℕ). IsFitted e.0) words (each_fitted words h)),
  (λ h. none_past words (recursion_from_All (λ (e : ℕ × ℕ). IsFitted e.0) words h)),
)

-- ## The words of a list

-- those after a word are elsewhere
after_word : (e : ℕ × ℕ) (rest some : Words) → AllByRecursion (λ f. e.0 < f.0) some
    → AllByRecursion (λ f. word_of rest f.0 ≡ Some f.1) some
    → AllByRecursion (λ f. word_of (e ∷ rest) f.0 ≡ Some f.1) some
after_word e rest [] up of = tt
after_word e rest (f ∷ some) up of =
    let other : e.0 ≢ f.0 = (λ same. absurd (omega (arith, up.0, same))) in
    (rw (ne_eqb e.0 f.0 other) of.0, after_word e rest some up.1 of.1)

each_is_of : (words : Words) → Ascends words → AllByRecursion (λ f. word_of words f.0 ≡ Some f.1) words
each_is_of [] up = tt
each_is_of (e ∷ rest) up =
    (rw (eq-eqb e.0 e.0 refl) refl, after_word e rest rest up.0 (each_is_of rest up.1))

-- all words of an image are words of it
pub own_words : (words : Words) → Ascends words → AreOf words words
own_words words up = All-from_recursion (λ (e : ℕ × ℕ). word_of words e.0 ≡ Some e.1) words (each_is_of words up)
