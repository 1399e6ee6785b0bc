-- The first word of a line.
use Rattle.std.proofs.Common.{◌≡◌, ◌∙◌, ℕ, suc, ◌+◌, ◌<◌, Bool, true, false, not, List, [], ◌∷◌, length, take}
use Rattle.std.proofs.Common.{drop, refl, ap, subst, inl, inr, arith}
use Rattle.std.specs.List.{prefix_len}
use Rattle.std.proofs.lemmas.Bool.{cases_Bool, not-true}
use Rattle.asm_text.specs.Pieces.{is_blank}
use Rattle.debugger.specs.Words.{joined, starts_word, words_of}

abbrev no_blank : ℕ → Bool
no_blank b = not (is_blank b)

blank_step : (b : ℕ) (bs : List ℕ) → is_blank b ≡ true → words_of (b ∷ bs) ≡ words_of bs
unfolding words_of
blank_step b bs h = rw h refl

word_step : (b : ℕ) (bs : List ℕ) → is_blank b ≡ false
    → words_of (b ∷ bs) ≡ joined b (starts_word bs) (words_of bs)
unfolding words_of
word_step b bs h = rw h refl

pub words_none : words_of [] ≡ []
unfolding words_of
words_none = refl

-- blanks in front say nothing
pub words_skip : (text : List ℕ) → words_of text ≡ words_of (drop (prefix_len is_blank text) text)
words_skip [] = refl
words_skip (b ∷ bs) = elim (cases_Bool (is_blank b)) [
  | inl h ↦ let m : 1 + prefix_len is_blank bs ≡ suc (prefix_len is_blank bs) =
      omega arith in rw (h, m) (blank_step b bs h ∙ words_skip bs)
  | inr h ↦ rw h refl
]

-- after them comes a word, or nothing
pub starts_after : (text : List ℕ) → 0 < length (drop (prefix_len is_blank text) text)
    → starts_word (drop (prefix_len is_blank text) text) ≡ true
starts_after [] some = absurd (omega arith)
starts_after (b ∷ bs) some = elim (cases_Bool (is_blank b)) [
  | inl h ↦
      let m : 1 + prefix_len is_blank bs ≡ suc (prefix_len is_blank bs) = omega arith in
      let same : drop (prefix_len is_blank (b ∷ bs)) (b ∷ bs) ≡ drop (prefix_len is_blank bs) bs =
      rw (h, m) refl in
      ap starts_word same ∙ starts_after bs (subst (λ (t : List ℕ). 0 < length t) same some)
  | inr h ↦ rw (h, h) refl
]

abbrev IsFront : List ℕ → Type 0
IsFront text =
    words_of text ≡ take (prefix_len no_blank text) text ∷ words_of (drop (prefix_len no_blank text) text)

-- a byte more in front of a word, or of a blank
front_more : (b c : ℕ) (bs : List ℕ) → is_blank b ≡ false → is_blank c ≡ false → IsFront (c ∷ bs)
    → IsFront (b ∷ c ∷ bs)
front_more b c bs e f front =
    let m : 1 + prefix_len no_blank (c ∷ bs) ≡ suc (prefix_len no_blank (c ∷ bs)) = omega arith in
    let whole : words_of (b ∷ c ∷ bs) ≡ joined b true (words_of (c ∷ bs)) =
    word_step b (c ∷ bs) e ∙ ap (λ (t : Bool). joined b (not t) (words_of (c ∷ bs))) f in
    let len : prefix_len no_blank (b ∷ c ∷ bs) ≡ suc (prefix_len no_blank (c ∷ bs)) = rw e m in
    rw len (whole ∙ ap (joined b true) front)

front_ends : (b c : ℕ) (bs : List ℕ) → is_blank b ≡ false → is_blank c ≡ true → IsFront (b ∷ c ∷ bs)
front_ends b c bs e f =
    let none : prefix_len no_blank (c ∷ bs) ≡ 0 = rw f refl in
    let len : prefix_len no_blank (b ∷ c ∷ bs) ≡ 1 = rw (e, none) refl in
    rw len (word_step b (c ∷ bs) e ∙ ap (λ (t : Bool). joined b (not t) (words_of (c ∷ bs))) f)

-- the word in front, up to a blank
pub words_take : (text : List ℕ) → starts_word text ≡ true → IsFront text
words_take [] h = absurd cc
words_take (b ∷ []) h =
    let e : is_blank b ≡ false = not-true (is_blank b) h in
    let len : prefix_len no_blank (b ∷ []) ≡ 1 = rw e refl in
    rw len (word_step b [] e)
words_take (b ∷ c ∷ bs) h =
    let e : is_blank b ≡ false = not-true (is_blank b) h in
    elim (cases_Bool (is_blank c)) [
      | inl f ↦ front_ends b c bs e f
      | inr f ↦ front_more b c bs e f (words_take (c ∷ bs) (ap not f))
    ]

pub words_empty : (text : List ℕ) → length text < 1 → words_of text ≡ []
words_empty [] none = words_none
words_empty (b ∷ bs) none = absurd (omega arith)
