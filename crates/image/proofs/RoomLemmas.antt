-- That words have room for more: addresses that are free, and segments to fill an image with.
use Rattle.std.proofs.Common.{◌≡◌, ◌≢◌, ◌∙◌, ℕ, zero, suc, ◌+◌, ◌-◌, ◌*◌, ◌%◌, ◌<◌, ◌≤◌, false, cond, [], ◌∷◌, List, length, Some, None, refl, ap, subst, inl, inr, arith}
use Rattle.std.specs.Prelude.{◌&&◌, is_some, nat_le, nat_lt, IsTrue}
use Rattle.std.specs.List.{AllByRecursion}
use Rattle.std.proofs.lemmas.Bool.{cases_lt, cases_eq, ne_eqb, or_from}
use Rattle.std.proofs.lemmas.Bool.Decides.{nat_tests}
use Rattle.image.specs.Image.{Words, begins, may_hold, runs_after, runs_of, with_word, word_of}
use Rattle.image.specs.ImageBytes.{Segment, overlaps, with_words}
use Rattle.image.specs.Inside.{Ascends, AreAllowed}
use Rattle.image.specs.Spelling.{AreNumbers, CanFollow}
use Rattle.image.proofs.GapLemmas.{none_above}
use Rattle.image.proofs.SegmentLemmas.{CanStand, free_from, word_of_apart, word_of_here}
use Rattle.image.proofs.WordLemmas.{Ascends-with_word, AreAllowed-with_word, Quads, absent_first, absent_rest, above, begins_new, has, length_with_word, quads, runs_of-with_word}
use Rattle.image.proofs.PlaceLemmas.{lies_in, lies_one, may_parts, may_within}
use Rattle.image.proofs.WrittenLemmas.{no_fault}

-- ## The words of a segment

-- words that more of them are put after
pub record IsGrown (old new : Words) (more runs : ℕ) : Type 0 where
  pub ascends : Ascends new
  pub allowed : AreAllowed new
  pub long : length new ≡ length old + more
  pub few : runs_of new ≤ runs_of old + runs

abbrev pub IsFree : Words → ℕ → ℕ → Type 0
IsFree words from to = (b : ℕ) → from ≤ b → b < to → word_of words b ≡ None

abbrev pub MayHold : ℕ → ℕ → Type 0
MayHold from to = (b : ℕ) → from ≤ b → b < to → b % 4 ≡ 0 → IsTrue (may_hold b)

still_free : (words : Words) (a w to : ℕ) → IsFree words a to → IsFree (with_word words a w) (a + 4) to
still_free words a w to free = λ b low high. word_of_apart words a w b (λ same. omega (arith, low, same)) ∙ free b (omega (arith, low)) high

has_put : (words : Words) (a w : ℕ) → word_of words a ≡ None → has (with_word words a w) (a + 4 - 4) ≡ 1
has_put words a w none =
    let back : a ≡ a + 4 - 4 = omega arith in
    subst (λ (b : ℕ). has (with_word words a w) b ≡ 1) back (ap (λ o. cond {A = ℕ} (is_some o) 1 0) (word_of_here words a w none))

-- of the words of a segment, only the first may begin a run: not where a word is before it
grown_from : (words : Words) (a runs : ℕ) (ws : List ℕ) → a % 4 ≡ 0 → Ascends words → AreAllowed words → 1 ≤ has words (a - 4) + runs
    → IsFree words a (a + 4 * length ws) → MayHold a (a + 4 * length ws) → IsGrown words (with_words words a ws) (length ws) runs
grown_from words a runs [] a4 up stand before free may = record { ascends = up; allowed = stand; long = omega arith; few = omega arith }
grown_from words a runs (w ∷ ws) a4 up stand before free may =
    let none : word_of words a ≡ None = free a (omega arith) (omega arith) in
    let here : IsTrue (may_hold a) = may a (omega arith) (omega arith) a4 in
    let new = with_word words a w in
    let same : a + 4 * suc (length ws) ≡ a + 4 + 4 * length ws = omega arith in
    let counted = runs_of-with_word words a w a4 (quads words stand) up none in
    let longer = length_with_word words a w in
    let put : has new (a + 4 - 4) ≡ 1 = has_put words a w none in
    let more = grown_from new (a + 4) 0 ws (omega (arith, a4)) (Ascends-with_word words a w up none) (AreAllowed-with_word words a w stand here) (omega (arith, put))
    (subst (λ (to : ℕ). IsFree new (a + 4) to) same (still_free words a w (a + 4 * suc (length ws)) free)) (λ b low high b4. may b (omega (arith, low)) (omega (arith, high)) b4) in
    let long = more.long in
    let few = more.few in
    record { ascends = more.ascends; allowed = more.allowed; long = omega (arith, long, longer); few = omega (arith, few, counted, before) }

may_hold_all : (words : Words) (a n : ℕ) → CanStand words a n → MayHold a (a + 4 * n)
may_hold_all words a n can = λ b low high b4.
    let a4 = can.aligned in
    may_within a (a + 4 * n) b (lies_in a (a + 4 * n) can.lies) b4 low (omega (arith, a4, b4, high))

-- a segment that fits begins at most one run
pub grown : (words : Words) (a : ℕ) (ws : List ℕ) → CanStand words a (length ws) → Ascends words → AreAllowed words → IsGrown words (with_words words a ws) (length ws) 1
grown words a ws can up stand =
    grown_from words a 1 ws can.aligned up stand (omega arith)
    (λ b low high. free_from words a (length ws) b can.apart low high) (may_hold_all words a (length ws) can)

-- ## An address that is free

-- Of the addresses 65,536 apart each that is taken lies in a run of its own, or the words between it and the one before
-- are 16,384. So few are taken.

absent_after : (e : ℕ × ℕ) (rest : Words) (a : ℕ) → e.0 ≢ a → word_of rest a ≡ None → word_of (e ∷ rest) a ≡ None
absent_after e rest a other none = rw (ne_eqb e.0 a other) none

-- a word that begins no run follows the one before
follows : (p a : ℕ) → a ≤ p + 65536 → a ≤ 65536 * begins (Some p) a + 4 + p
follows p a near = elim (cases_eq a (p + 4)) [
  | inl same ↦ omega (arith, same)
  | inr other ↦ let new = begins_new p a other in omega (arith, near, new)
]

abbrev pub Free : Words → ℕ → ℕ → Type 0
Free words low most = (m : ℕ) × (word_of words (low + 65536 * m) ≡ None) × (65536 * m + low ≤ most)

free_here : (words : Words) (c most : ℕ) → word_of words c ≡ None → c ≤ most → Free words c most
free_here words c most none fits =
    let same : c ≡ c + 65536 * 0 = omega arith in
    (0, subst (λ (b : ℕ). word_of words b ≡ None) same none, omega (arith, fits))

-- after a word p
free_after : (words : Words) (p c : ℕ) → Ascends words → AllByRecursion (λ e. p < e.0) words → c ≤ p + 65536 → p < c
    → Free words c (65536 * runs_after (Some p) words + 4 * length words + 65536 + p)
free_after [] p c up all near lt = free_here [] c _ refl (omega (arith, near))
free_after (e ∷ rest) p c up all near lt = elim (cases_lt c e.0) [
  | inl below ↦ free_here (e ∷ rest) c _ (none_above (e ∷ rest) c (below, above c e.0 rest below up.0)) (omega (arith, near))
  | inr le ↦
      let joins = follows p e.0 (omega (arith, le, near)) in
      elim (cases_eq e.0 c) [
        | inl same ↦
            let deeper = free_after rest e.0 (c + 65536) up.1 up.0 (omega (arith, same)) (omega (arith, same)) in
            let m = deeper.0 in
            let bound = deeper.2 in
            let next : c + 65536 + 65536 * m ≡ c + 65536 * suc m = omega arith in
            (suc m, subst (λ (b : ℕ). word_of (e ∷ rest) b ≡ None) next (absent_after e rest (c + 65536 + 65536 * m) (λ equal. omega (arith, equal, same)) deeper.1), omega (arith, bound, joins, same))
        | inr other ↦
            let past : p < e.0 = all.0 in
            let deeper = free_after rest e.0 c up.1 up.0 (omega (arith, near, past)) (omega (arith, le, other)) in
            let m = deeper.0 in
            let bound = deeper.2 in
            (m, absent_after e rest (c + 65536 * m) (λ equal. omega (arith, equal, le, other)) deeper.1, omega (arith, bound, joins))
      ]
]

-- with fewer than 16 runs and 65,536 words
pub free_address : (words : Words) (low : ℕ) → Ascends words → low < 65536 → runs_of words ≤ 15 → length words ≤ 65535 → Free words low 1500000
free_address [] low up small few short = free_here [] low _ refl (omega (arith, small))
free_address (e ∷ rest) low up small few short = elim (cases_lt low e.0) [
  | inl below ↦ free_here (e ∷ rest) low _ (none_above (e ∷ rest) low (below, above low e.0 rest below up.0)) (omega (arith, small))
  | inr le ↦ elim (cases_eq e.0 low) [
    | inl same ↦
        let deeper = free_after rest e.0 (low + 65536) up.1 up.0 (omega (arith, same)) (omega (arith, same)) in
        let m = deeper.0 in
        let bound = deeper.2 in
        let next : low + 65536 + 65536 * m ≡ low + 65536 * suc m = omega arith in
        (suc m, subst (λ (b : ℕ). word_of (e ∷ rest) b ≡ None) next (absent_after e rest (low + 65536 + 65536 * m) (λ equal. omega (arith, equal, same)) deeper.1), omega (arith, bound, few, short, small, same))
    | inr other ↦
        let deeper = free_after rest e.0 low up.1 up.0 (omega (arith, small)) (omega (arith, le, other)) in
        let m = deeper.0 in
        let bound = deeper.2 in
        (m, absent_after e rest (low + 65536 * m) (λ equal. omega (arith, equal, le, other)) deeper.1, omega (arith, bound, few, short, small, le))
  ]
]

-- ## One word, and segments of one word

apart_one : (words : Words) (a : ℕ) → Quads words → a % 4 ≡ 0 → word_of words a ≡ None → overlaps words a 1 ≡ false
apart_one [] a q a4 none = refl
apart_one (e ∷ rest) a q a4 none =
    let other = absent_first e rest a none in
    let e4 : e.0 % 4 ≡ 0 = q.0 in
    or_from _ _ (outside e.0 a e4 a4 other) (apart_one rest a q.1 a4 (absent_rest e rest a none))
  where
    outside : (b c : ℕ) → b % 4 ≡ 0 → c % 4 ≡ 0 → b ≢ c → (nat_le c b && nat_lt b (c + 4 * 1)) ≡ false
    outside b c b4 c4 other = grind (arith, nat_tests, b4, c4, other)

pub one_stands : (words : Words) (a : ℕ) → AreAllowed words → length words + 1 ≤ 65536 → IsTrue (may_hold a) → word_of words a ≡ None → CanStand words a 1
one_stands words a stand short may none =
    let a4 = (may_parts a may).0 in
    record {
      aligned = a4;
      some = omega arith;
      lies = lies_one a may;
      few = short;
      apart = apart_one words a (quads words stand) a4 none;
    }

pub low_holds : (a : ℕ) → a % 4 ≡ 0 → a ≤ 1500000 → IsTrue (may_hold a)
low_holds a a4 low = grind (arith, nat_tests, a4, low)

-- words after which so many segments fit
pub record HasRoom (left : ℕ) (words : Words) : Type 0 where
  pub ascends : Ascends words
  pub allowed : AreAllowed words
  pub runs : runs_of words + left ≤ 16

pub room_after : (left : ℕ) (words new : Words) (n : ℕ) → HasRoom (suc left) words → IsGrown words new n 1 → HasRoom left new
room_after left words new n room more =
    let runs = room.runs in
    let few = more.few in
    record { ascends = more.ascends; allowed = more.allowed; runs = omega (arith, runs, few) }

-- segments that fit after words
pub record Fill (left : ℕ) (before : Words) : Type 0 where
  pub segments : List Segment
  pub count : length segments ≡ left
  pub numbers_are : AllByRecursion (λ s. AreNumbers s.words) segments
  pub follow : CanFollow before segments

filled : (left : ℕ) (before : Words) (a : ℕ) → CanStand before a 1 → Fill left (with_words before a (0 ∷ [])) → Fill (suc left) before
filled left before a can others = record {
  segments = record { address = a; words = 0 ∷ [] } ∷ others.segments;
  count = ap suc others.count;
  numbers_are = ((omega arith, tt), others.numbers_are);
  follow = (no_fault before a 1 can, others.follow);
}

pub fill : (left : ℕ) (before : Words) → HasRoom left before → length before + left ≤ 65536 → Fill left before
fill zero before room short = record { segments = []; count = refl; numbers_are = tt; follow = tt }
fill (suc left) before room short =
    let runs = room.runs in
    let free = free_address before 0 room.ascends (omega arith) (omega (arith, runs)) (omega (arith, short)) in
    let m = free.0 in
    let a = 0 + 65536 * m in
    let bound = free.2 in
    let a4 : a % 4 ≡ 0 = omega arith in
    let can = one_stands before a room.allowed (omega (arith, short)) (low_holds a a4 (omega (arith, bound))) free.1 in
    let more = grown before a (0 ∷ []) can room.ascends room.allowed in
    let long = more.long in
    filled left before a can (fill left (with_words before a (0 ∷ [])) (room_after left before _ 1 room more) (omega (arith, long, short)))
