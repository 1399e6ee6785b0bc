-- The words of lines that pass the first sweep fit into an image, whatever they are.
use Rattle.std.proofs.Common.{◌≡◌, ◌||◌, ◌+◌, ◌*◌, ◌≤◌, ◌==◌, not, ℕ, zero, suc, Bool, true, false, List, [], ◌∷◌, ◌++◌, Option, Some, None, refl, sym, subst, arith, append_assoc, ◌≢◌, ◌%◌, ◌<◌, length, inl, inr}
use Rattle.std.proofs.lemmas.Bool.Decides.{nat_tests}
use Rattle.std.proofs.lemmas.List.{append-nil, length-append}
use Rattle.std.specs.List.{AllByRecursion}
use Rattle.std.specs.Prelude.{flat_map, if◌then◌else◌, nat_le, nat_lt}
use Rattle.image.specs.Image.{Words, may_hold, put_fault, runs_of, with_word, word_of}
use Rattle.image.proofs.SegmentLemmas.{word_of_here}
use Rattle.image.proofs.WordLemmas.{length_with_word}
use Rattle.asm_text.specs.Said.{Said, Orgs}
use Rattle.asm_text.specs.Statements.{Parsed}
use Rattle.asm_text.proofs.WordLaws.{false_true}
use Rattle.assembler.specs.Assembles.{Laid, Once, address_after, is_open, laid_from, places, addresses_from, segments, word_count}
use Rattle.assembler.proofs.AssembleAll.{apart_both, once_parts}
use Rattle.assembler.proofs.AssembleBack.{Apart, In, may_four, in_first, in_last}
use Rattle.image.proofs.WordLemmas.{all_parts}
use Rattle.assembler.proofs.AssembleBasics.{count_places}
use Rattle.assembler.proofs.AssembleRuns.{Ascending, ascending_put, put_elsewhere, runs_more, runs_same}

-- ## What has been put so far

pub record Put (image : Words) (taken : List ℕ) (most : ℕ) : Type 0 where
  pub ascends : Ascending image
  pub absent : (a : ℕ) → (In taken a → ⊥) → word_of image a ≡ None
  pub count : length image ≡ length taken
  pub runs : runs_of image ≤ most

-- the word right before an address is there
unfoldable pub Joins : Words → ℕ → Type 0
Joins image at = (p : ℕ) × (v : ℕ) × (at ≡ p + 4) × (word_of image p ≡ Some v)

may_put : (image : Words) (at w : ℕ) → may_hold at ≡ true → word_of image at ≡ None → length image < 65536
    → runs_of (with_word image at w) ≤ 16 → put_fault image at w ≡ None
may_put image at w may none room few =
    let small : nat_le 65536 (length image) ≡ false = grind (arith, nat_tests, room) in
    let runs : nat_lt 16 (runs_of (with_word image at w)) ≡ false = grind (arith, nat_tests, few) in
    rw (may, none, small, runs) refl

put_more : (image : Words) (taken : List ℕ) (at w most : ℕ) → Put image taken most → at % 4 ≡ 0
    → (In taken at → ⊥) → (now : ℕ) → runs_of (with_word image at w) ≤ now
    → Put (with_word image at w) (taken ++ at ∷ []) now
put_more image taken at w most h four free now few =
    let none = h.absent at free in
    record {
      ascends = ascending_put image at w h.ascends four none;
      absent = λ a other. put_elsewhere image at w a
          (h.absent a (λ m. other (in_first taken (at ∷ []) a m)))
          (λ same. other (subst (In (taken ++ at ∷ [])) same (in_last taken at)));
      count = omega (arith, length_with_word image at w, h.count, length-append taken (at ∷ []));
      runs = few;
    }

-- a word after another
run_on : (image : Words) (at w : ℕ) → at % 4 ≡ 0 → Ascending image → word_of image at ≡ None
    → Joins image at → runs_of (with_word image at w) ≤ runs_of image
unfolding Joins
run_on image at w four asc none j =
    let p = j.0 in
    subst (λ a. runs_of (with_word image a w) ≤ runs_of image) (sym j.2)
    (runs_same image p j.1 w (subst (λ a. a % 4 ≡ 0) j.2 four) asc
    (subst (λ a. word_of image a ≡ None) j.2 none) j.3)

joins_next : (image : Words) (at w : ℕ) → word_of image at ≡ None → Joins (with_word image at w) (at + 4)
unfolding Joins
joins_next image at w none = (at, w, refl, word_of_here image at w none)

-- ## The places of a line's words

-- what a line's places ask
pub record Stands (taken : List ℕ) (at n : ℕ) : Type 0 where
  pub held : AllByRecursion (λ a. may_hold a ≡ true) (addresses_from at n)
  pub apart : Apart taken (addresses_from at n)
  pub once : Once (addresses_from at n)
  pub few : length taken + n ≤ 65536

one_apart : (at : ℕ) (ats : List ℕ) → AllByRecursion (λ y. at ≢ y) ats → Apart (at ∷ []) ats
unfolding Apart In
one_apart at [] h = tt
one_apart at (x ∷ xs) h = (λ m. elim m [ inl e ↦ h.0 e | inr n ↦ n ], one_apart at xs h.1)

stands_after : (taken : List ℕ) (at n : ℕ) → Stands taken at (suc n) → Stands (taken ++ at ∷ []) (at + 4) n
unfolding Apart
stands_after taken at n h = record {
  held = h.held.1;
  apart = apart_both taken (at ∷ []) (addresses_from (at + 4) n) h.apart.1
      (one_apart at (addresses_from (at + 4) n) h.once.0);
  once = h.once.1;
  few = omega (arith, h.few, length-append taken (at ∷ []));
}

first_apart : (taken : List ℕ) (at : ℕ) (ats : List ℕ) → Apart taken (at ∷ ats) → In taken at → ⊥
unfolding Apart
first_apart taken at ats h = h.0

put_weaker : (image : Words) (taken : List ℕ) (a b : ℕ) → a ≤ b → Put image taken a → Put image taken b
put_weaker image taken a b le h =
    let runs =
    h.runs in
    record { ascends = h.ascends; absent = h.absent; count = h.count; runs = omega (arith, le, runs) }

-- ## A line's words, after others or first of a segment

unfoldable pub JoinsIf : Bool → Words → ℕ → Type 0
JoinsIf b image at = b ≡ true → Joins image at

suc_zero : (n : ℕ) → (suc n == 0) ≡ false
suc_zero n = grind (arith, nat_tests)

-- ## One word after the other

-- any words may be put at the addresses, one after the other
unfoldable pub Fits : Words → List ℕ → Type 0
Fits image [] = Unit {0}
Fits image (a ∷ ats) = (w : ℕ) → (put_fault image a w ≡ None) × Fits (with_word image a w) ats

-- what follows fits after such places
unfoldable GoesOn : List ℕ → ℕ → Bool → ℕ → List ℕ → Type 0
GoesOn taken most begun at rest =
    (image : Words) → Put image taken most → JoinsIf begun image at → Fits image rest

goes_on : (taken now : List ℕ) (most : ℕ) (begun : Bool) (at to : ℕ) (rest : List ℕ) → taken ≡ now → at ≡ to
    → GoesOn taken most begun at rest → GoesOn now most begun to rest
goes_on taken now most begun at to rest same there h =
    subst (λ ts. GoesOn ts most begun to rest) same (subst (λ a. GoesOn taken most begun a rest) there h)

-- after a word
fits_on : (n at : ℕ) (image : Words) (taken : List ℕ) (most : ℕ) (rest : List ℕ) → most ≤ 16
    → Put image taken most → Joins image at → Stands taken at n
    → GoesOn (taken ++ addresses_from at n) most true (at + 4 * n) rest → Fits image (addresses_from at n ++ rest)
unfolding Fits GoesOn JoinsIf
fits_on zero at image taken most rest le h j s on =
    goes_on (taken ++ []) taken most true (at + 4 * 0) at rest (append-nil taken) (omega arith) on image h
    (λ e. j)
fits_on (suc n) at image taken most rest le h j s on = λ w.
    let four = may_four at s.held.0 in
    let free = first_apart taken at (addresses_from (at + 4) n) s.apart in
    let none = h.absent at free in
    let few : runs_of (with_word image at w) ≤ most =
    omega (arith, run_on image at w four h.ascends none j, h.runs) in (
      may_put image at w s.held.0 none (omega (arith, h.count, s.few)) (omega (arith, few, le)),
      fits_on n (at + 4) (with_word image at w) (taken ++ at ∷ []) most rest le
          (put_more image taken at w most h four free most few) (joins_next image at w none)
          (stands_after taken at n s)
          (goes_on (taken ++ addresses_from at (suc n))
          ((taken ++ at ∷ []) ++ addresses_from (at + 4) n) most true (at + 4 * suc n)
          (at + 4 + 4 * n) rest
          (sym (append_assoc taken (at ∷ []) (addresses_from (at + 4) n))) (omega arith) on),
    )

-- a line's words, after others or first of a segment
fits_line : (n at : ℕ) (begun : Bool) (image : Words) (taken : List ℕ) (most : ℕ) (rest : List ℕ)
    → most + (if begun || n == 0 then 0 else 1) ≤ 16 → Put image taken most → JoinsIf begun image at
    → Stands taken at n
    → GoesOn (taken ++ addresses_from at n) (most + (if begun || n == 0 then 0 else 1))
    (begun || not (n == 0)) (at + 4 * n) rest → Fits image (addresses_from at n ++ rest)
unfolding Fits GoesOn JoinsIf
fits_line zero at begun image taken most rest le h j s on =
    let now : ℕ = most + (if begun || true then 0 else 1) in
    let more : most ≤ now = omega arith in
    goes_on (taken ++ []) taken now (begun || false) (at + 4 * 0) at rest (append-nil taken)
    (omega arith) on image (put_weaker image taken most now more h) (λ e. j (was begun e))
  where
    was : (b : Bool) → (b || false) ≡ true → b ≡ true
    was true e = refl
    was false e = e
fits_line (suc n) at true image taken most rest le h j s on =
    fits_on (suc n) at image taken (most + 0) rest le
    (put_weaker image taken most (most + 0) (omega arith) h) (j refl) s on
fits_line (suc n) at false image taken most rest le h j s on = λ w.
    let four = may_four at s.held.0 in
    let free = first_apart taken at (addresses_from (at + 4) n) s.apart in
    let none = h.absent at free in
    let bound : most + 1 ≤ 16 = rw (suc_zero n) at le in
    let few : runs_of (with_word image at w) ≤ most + 1 =
    omega (arith, runs_more image at w four h.ascends none, h.runs) in
    let there : GoesOn (taken ++ addresses_from at (suc n)) (most + 1) true (at + 4 * suc n) rest =
    rw (suc_zero n) at on in (
      may_put image at w s.held.0 none (omega (arith, h.count, s.few)) (omega (arith, few, bound)),
      fits_on n (at + 4) (with_word image at w) (taken ++ at ∷ []) (most + 1) rest bound
          (put_more image taken at w most h four free (most + 1) few) (joins_next image at w none)
          (stands_after taken at n s)
          (goes_on (taken ++ addresses_from at (suc n)) ((taken ++ at ∷ []) ++ addresses_from (at + 4) n)
          (most + 1) true (at + 4 * suc n) (at + 4 + 4 * n) rest
          (sym (append_assoc taken (at ∷ []) (addresses_from (at + 4) n))) (omega arith) there),
    )

-- after an ORG no word is after another
opened : (said : Option Said) (begun : Bool) (at : ℕ) (image : Words)
    → JoinsIf (begun || not (word_count said == 0)) image (at + 4 * word_count said)
    → JoinsIf (is_open begun said) image (address_after at said)
unfolding JoinsIf
opened (Some (Orgs n)) begun at image j = λ e. false_true e
opened said begun at image j = j

-- ## All lines

pub record CanFill (image : Words) (taken : List ℕ) (most : ℕ) (begun : Bool) (at : ℕ)
    (lines : List Laid) : Type 0 where
  pub put : Put image taken most
  pub joins : JoinsIf begun image at
  pub held : AllByRecursion (λ a. may_hold a ≡ true) (flat_map places lines)
  pub apart : Apart taken (flat_map places lines)
  pub once : Once (flat_map places lines)
  pub few : length taken + length (flat_map places lines) ≤ 65536
  pub few_segments : most + segments begun lines ≤ 16

once_first : (xs ys : List ℕ) → Once (xs ++ ys) → Once xs
once_first [] ys h = tt
once_first (x ∷ xs) ys h = ((all_parts (λ y. x ≢ y) xs ys h.0).0, once_first xs ys h.1)

pub fits : (said : List Parsed) (at : ℕ) (begun : Bool) (image : Words) (taken : List ℕ) (most : ℕ)
    → CanFill image taken most begun at (laid_from at said)
    → Fits image (flat_map places (laid_from at said))
unfolding Fits GoesOn Apart
fits [] at begun image taken most h = tt
fits (p ∷ said) at begun image taken most h =
    let n = word_count p.said in
    let lines = laid_from (address_after at p.said) said in
    let here = addresses_from at n in
    let there = flat_map places lines in
    let held = all_parts (λ b. may_hold b ≡ true) here there h.held in
    let apart = all_parts (λ b. In taken b → ⊥) here there h.apart in
    let parts = once_parts here there h.once in
    let s : Stands taken at n =
    record {
      held =
          held.0;
      apart =
          apart.0;
      once =
          once_first here there h.once;
      few =
          omega (arith, h.few, length-append here there, count_places at n);
    } in
    let now = most + (if begun || n == 0 then 0 else 1) in
    fits_line n at begun image taken most there (omega (arith, h.few_segments)) h.put h.joins s
    (λ next put joins. fits said (address_after at p.said) (is_open begun p.said) next (taken ++ here) now
    (record {
      put = put;
      joins = opened p.said begun at next joins;
      held = held.1;
      apart = apart_both taken here there apart.1 parts.1;
      once = parts.0;
      few = omega (arith, h.few, length-append here there, length-append taken here);
      few_segments = omega (arith, h.few_segments);
    }))
