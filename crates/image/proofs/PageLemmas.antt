-- The pages on which the words of an image lie: they are those of its words, they ascend, and they are few.
use Rattle.std.proofs.Common.{◌≡◌, ◌≢◌, ◌∙◌, ℕ, zero, suc, ◌+◌, ◌*◌, ◌/◌, ◌%◌, ◌^◌, ◌<◌, ◌≤◌, ◌⊎◌, inl, inr, eqb, List, [], ◌∷◌, length, map, get_or, Some, refl, sym, ap, subst, arith}
use Rattle.std.specs.Prelude.{IsSome}
use Rattle.std.specs.List.{AllByRecursion, Contains, dedup, dedup_from}
use Rattle.std.specs.List.Retain.{DiffersFromLast, IsFiltered}
use Rattle.std.specs.List.Sorted.{IsStrictlySortedBy}
use Rattle.std.specs.Ordering.{nat_cmp}
use Rattle.std.specs.declared.cmp.Ordering.TheVariants.{Less}
use Rattle.std.proofs.lemmas.Bool.{cases_eq, eq-eqb, ne_eqb}
use Rattle.std.proofs.lemmas.Bool.Decides.{nat_tests}
use Rattle.std.proofs.lemmas.List.Elements.{Contains-append_right}
use Rattle.std.proofs.lemmas.List.Filters.{dedup_is}
use Rattle.std.proofs.lemmas.List.Kept.{Contains-dedup_nat, Contains-from_dedup}
use Rattle.image.specs.Image.{Words, begins, runs_after, runs_of, word_of}
use Rattle.image.specs.Inside.{AreWhole, Ascends}
use Rattle.image.specs.Pages.{AreHeld, Ascend, HasWordOn}
use Rattle.image.proofs.WordLemmas.{Quads, begins_new, quads}

-- the page of each word
abbrev pub pages : Words → List ℕ
pages words = map (λ a. a / 2 ^ 15) (map (λ e. e.0) words)

-- ## They are those of the words

word_here : (e : ℕ × ℕ) (rest : Words) → IsSome (word_of (e ∷ rest) e.0)
word_here e rest = rw (eq-eqb e.0 e.0 refl) refl

word_after : (e : ℕ × ℕ) (rest : Words) (a : ℕ) → IsSome (word_of rest a) → IsSome (word_of (e ∷ rest) a)
word_after e rest a some = elim (cases_eq e.0 a) [
  | inl same ↦ rw (eq-eqb e.0 a same) refl
  | inr other ↦ rw (ne_eqb e.0 a other) some
]

has_word : (words : Words) (k page : ℕ) → k < length (pages words) → get_or (pages words) k page ≡ page → HasWordOn words page
has_word [] k page lt is = absurd (omega (arith, lt))
has_word (e ∷ rest) zero page lt is = (e.0, word_here e rest, is)
has_word (e ∷ rest) (suc k) page lt is =
    let more = has_word rest k page (omega (arith, lt)) is in
    (more.0, word_after e rest more.0 more.1, more.2)

has_page : (words : Words) (a page : ℕ) → IsSome (word_of words a) → a / 2 ^ 15 ≡ page → Contains (pages words) page
has_page [] a page some is = absurd (cc)
has_page (e ∷ rest) a page some is = elim (cases_eq e.0 a) [
  | inl same ↦ (0, omega arith, ap (λ (x : ℕ). x / 2 ^ 15) same ∙ is)
  | inr other ↦ Contains-append_right (e.0 / 2 ^ 15 ∷ []) (pages rest) page (has_page rest a page (rw (ne_eqb e.0 a other) at some) is)
]

-- ## They ascend

abbrev pub Rise : ℕ → List ℕ → Type 0
Rise k [] = Unit {0}
Rise k (x ∷ xs) = (k ≤ x) × Rise x xs

less : (x y : ℕ) → x < y → nat_cmp x y ≡ Less
less x y lt = grind (arith, nat_tests, lt)

kept_above : (low k : ℕ) (xs : List ℕ) → low < k → Rise k xs → AllByRecursion (λ y. nat_cmp low y ≡ Less) (dedup_from eqb k xs)
kept_above low k [] lt rise = (less low k lt, tt)
kept_above low k (x ∷ xs) lt rise = elim (cases_eq x k) [
  | inl same ↦ rw (eq-eqb x k same) (kept_above low k xs lt (subst (λ (y : ℕ). Rise y xs) same rise.1))
  | inr other ↦ rw (ne_eqb x k other) (less low k lt, (let le : k ≤ x = rise.0 in kept_above low x xs (omega (arith, lt, le)) rise.1))
]

kept_ascend : (k : ℕ) (xs : List ℕ) → Rise k xs → Ascend (dedup_from eqb k xs)
unfolding IsStrictlySortedBy
kept_ascend k [] rise = (tt, tt)
kept_ascend k (x ∷ xs) rise = elim (cases_eq x k) [
  | inl same ↦ rw (eq-eqb x k same) (kept_ascend k xs (subst (λ (y : ℕ). Rise y xs) same rise.1))
  | inr other ↦ rw (ne_eqb x k other) ((let le : k ≤ x = rise.0 in kept_above k x xs (omega (arith, other, le)) rise.1), kept_ascend x xs rise.1)
]

pages_rise : (p : ℕ) (words : Words) → AllByRecursion (λ e. p < e.0) words → Ascends words → Rise (p / 2 ^ 15) (pages words)
pages_rise p [] all up = tt
pages_rise p (e ∷ rest) all up = let lt : p < e.0 = all.0 in (omega (arith, lt), pages_rise e.0 rest up.0 up.1)

pages_ascend : (words : Words) → Ascends words → Ascend (dedup eqb (pages words))
unfolding IsStrictlySortedBy
pages_ascend [] up = tt
pages_ascend (e ∷ rest) up = kept_ascend (e.0 / 2 ^ 15) (pages rest) (pages_rise e.0 rest up.0 up.1)

-- ## They are few

-- A run of words begins on one page, and goes on to the next after 8,192 words of it.

abbrev pub Joins : ℕ → ℕ → ℕ → Type 0
Joins p a b = (a ≡ p + 4) ⊎ (b ≡ 1)

joins : (p a : ℕ) → Joins p a (begins (Some p) a)
joins p a = elim (cases_eq a (p + 4)) [ inl same ↦ inl same | inr other ↦ inr (begins_new p a other) ]

same_page : (p a n r b kept : ℕ) → p % 4 ≡ 0 → a % 4 ≡ 0 → a / 32768 ≡ p / 32768 → Joins p a b → 8192 * kept ≤ 8192 + n + 16384 * r + a % 32768 / 4
    → 8192 * kept ≤ 8192 + suc n + 16384 * (b + r) + p % 32768 / 4
same_page p a n r b kept p4 a4 same (inl next) few = omega (arith, p4, a4, same, next, few)
same_page p a n r b kept p4 a4 same (inr new) few = omega (arith, new, few)

next_page : (p a n r b kept : ℕ) → p % 4 ≡ 0 → a % 4 ≡ 0 → a / 32768 ≢ p / 32768 → Joins p a b → 8192 * kept ≤ 8192 + n + 16384 * r + a % 32768 / 4
    → 8192 * suc kept ≤ 8192 + suc n + 16384 * (b + r) + p % 32768 / 4
next_page p a n r b kept p4 a4 other (inl next) few = omega (arith, p4, a4, other, next, few)
next_page p a n r b kept p4 a4 other (inr new) few = omega (arith, new, few)

few_after : (words : Words) (p : ℕ) → Quads words → p % 4 ≡ 0
    → 8192 * length (dedup_from eqb (p / 2 ^ 15) (pages words)) ≤ 8192 + length words + 16384 * runs_after (Some p) words + p % 32768 / 4
few_after [] p quad p4 = omega arith
few_after (e ∷ rest) p quad p4 =
    let more = few_after rest e.0 quad.1 quad.0 in
    elim (cases_eq (e.0 / 2 ^ 15) (p / 2 ^ 15)) [
      | inl same ↦ rw (eq-eqb (e.0 / 2 ^ 15) (p / 2 ^ 15) same)
          (same_page p e.0 (length rest) (runs_after (Some e.0) rest) (begins (Some p) e.0) (length (dedup_from eqb (p / 2 ^ 15) (pages rest))) p4 quad.0 same (joins p e.0)
          (subst (λ (k : ℕ). 8192 * length (dedup_from eqb k (pages rest)) ≤ 8192 + length rest + 16384 * runs_after (Some e.0) rest + e.0 % 32768 / 4) same more))
      | inr other ↦ rw (ne_eqb (e.0 / 2 ^ 15) (p / 2 ^ 15) other)
          (next_page p e.0 (length rest) (runs_after (Some e.0) rest) (begins (Some p) e.0) (length (dedup_from eqb (e.0 / 2 ^ 15) (pages rest))) p4 quad.0 other (joins p e.0) more)
    ]

pages_few : (words : Words) → Quads words → runs_of words ≤ 16 → length words ≤ 65536 → length (dedup eqb (pages words)) ≤ 40
pages_few [] quad few short = omega arith
pages_few (e ∷ rest) quad few short =
    let more = few_after rest e.0 quad.1 quad.0 in
    omega (arith, few, short, more)

-- ## All of it

pub held_pages : (words : Words) → AreWhole words → AreHeld words (dedup eqb (pages words))
held_pages words whole = record {
  ascend = pages_ascend words whole.ascends;
  held = λ page. (
    (λ c. let d = Contains-from_dedup eqb (pages words) page c in has_word words d.0 page d.1 d.2),
    (λ h. Contains-dedup_nat (pages words) page (has_page words h.0 page h.1 h.2)),
  );
  few = pages_few words (quads words whole.allowed) whole.few_runs whole.few_words;
}

-- the same of a list that is filtered
pub pages_held : (words : Words) (numbers kept : List ℕ) → AreWhole words → numbers ≡ pages words → IsFiltered (DiffersFromLast eqb) [] numbers kept → AreHeld words kept
pages_held words numbers kept whole are filtered =
    subst (λ (ps : List ℕ). AreHeld words ps) (sym (dedup_is eqb numbers kept filtered ∙ ap (dedup eqb) are)) (held_pages words whole)
