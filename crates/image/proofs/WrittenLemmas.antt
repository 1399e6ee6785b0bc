-- The segments of an image spell it.
use Rattle.std.proofs.Common.{◌≡◌, ◌∙◌, ℕ, suc, ◌+◌, ◌*◌, ◌%◌, ◌^◌, ◌<◌, ◌≤◌, Bool, true, false, cond, List, [], ◌∷◌, ◌++◌, length, None, refl, sym, ap, subst, inl, inr, arith, length-append, append_assoc}
use Rattle.std.specs.Prelude.{◌==◌, nat_lt, IsTrue}
use Rattle.std.specs.List.{AllByRecursion}
use Rattle.std.proofs.lemmas.Bool.{cases_eq, le-ltb, ne_eqb, eq-eqb, or_from}
use Rattle.std.proofs.lemmas.Bool.Decides.{nat_tests}
use Rattle.std.proofs.lemmas.List.{append-nil}
use Rattle.image.specs.Image.{Words, may_hold, with_word}
use Rattle.image.specs.ImageBytes.{Segment, joined, overlaps, segment_fault, segments_of, with_words}
use Rattle.image.specs.Inside.{AreWhole, Ascends, AreAllowed}
use Rattle.image.specs.Spelling.{AreNumbers, CanFollow, Spell, with_segments}
use Rattle.image.proofs.RunLemmas as runs
use Rattle.image.proofs.PlaceLemmas.{Lies, lies_in, lies_more, lies_one, may_parts}
use Rattle.image.proofs.SegmentLemmas.{CanStand}
use Rattle.image.proofs.WordLemmas.{all_parts}

-- ## The entries of segments

abbrev pub entries_from : ℕ → List ℕ → Words
entries_from address [] = []
entries_from address (w ∷ rest) = (address, w) ∷ entries_from (address + 4) rest

abbrev pub entries : List Segment → Words
entries [] = []
entries (s ∷ rest) = entries_from s.address s.words ++ entries rest

entries_joined : (a w : ℕ) (segments : List Segment) → entries (joined a w segments) ≡ (a, w) ∷ entries segments
entries_joined a w [] = refl
entries_joined a w (s ∷ rest) = elim (cases_eq s.address (a + 4)) [
  | inl same ↦ rw (eq-eqb s.address (a + 4) same) (ap (λ (x : ℕ). (a, w) ∷ (entries_from x s.words ++ entries rest)) (sym same))
  | inr other ↦ rw (ne_eqb s.address (a + 4) other) refl
]

entries_of : (words : Words) → entries (segments_of words) ≡ words
entries_of [] = refl
entries_of (e ∷ rest) = entries_joined e.0 e.1 (segments_of rest) ∙ ap (λ (ws : Words). e ∷ ws) (entries_of rest)

abbrev pub IsFull : Segment → Type 0
IsFull s = (0 < length s.words) × AreNumbers s.words

full_joined : (a w : ℕ) (segments : List Segment) → w < 2 ^ 32 → AllByRecursion IsFull segments → AllByRecursion IsFull (joined a w segments)
full_joined a w [] fits all = ((omega arith, (fits, tt)), tt)
full_joined a w (s ∷ rest) fits all = either (s.address == a + 4)
  where
    either : (b : Bool) → AllByRecursion IsFull (cond b (record { address = a; words = w ∷ s.words } ∷ rest) (record { address = a; words = w ∷ [] } ∷ s ∷ rest))
    either true = ((omega arith, (fits, all.0.1)), all.1)
    either false = ((omega arith, (fits, tt)), all)

full_segments : (words : Words) → AllByRecursion (λ e. e.1 < 2 ^ 32) words → AllByRecursion IsFull (segments_of words)
full_segments [] all = tt
full_segments (e ∷ rest) all = full_joined e.0 e.1 (segments_of rest) all.0 (full_segments rest all.1)

numbers_of : (segments : List Segment) → AllByRecursion IsFull segments → AllByRecursion (λ s. AreNumbers s.words) segments
numbers_of [] all = tt
numbers_of (s ∷ rest) all = (all.0.1, numbers_of rest all.1)

-- ## Parts of lists

-- all before an entry of ascending words are below it
below_next : (before more : Words) (f : ℕ × ℕ) → Ascends (before ++ f ∷ more) → AllByRecursion (λ e. e.0 < f.0) before
below_next [] more f up = tt
below_next (e ∷ before) more f up = ((all_parts (λ g. e.0 < g.0) before (f ∷ more) up.0).1.0, below_next before more f up.1)

below_further : (before : Words) (a w : ℕ) → AllByRecursion (λ e. e.0 < a) before → AllByRecursion (λ e. e.0 < a + 4) (before ++ (a, w) ∷ [])
below_further [] a w all = (omega arith, tt)
below_further (e ∷ before) a w all = (let lt : e.0 < a = all.0 in omega (arith, lt), below_further before a w all.1)

-- ## Words after all others

word_last : (before : Words) (a w : ℕ) → AllByRecursion (λ e. e.0 < a) before → with_word before a w ≡ before ++ (a, w) ∷ []
word_last [] a w all = refl
word_last (e ∷ before) a w all = rw (le-ltb a e.0 (let lt : e.0 < a = all.0 in omega (arith, lt))) (ap (λ (ws : Words). e ∷ ws) (word_last before a w all.1))

words_last : (before : Words) (a : ℕ) (ws : List ℕ) → AllByRecursion (λ e. e.0 < a) before → with_words before a ws ≡ before ++ entries_from a ws
words_last before a [] all = sym (append-nil before)
words_last before a (w ∷ ws) all =
    ap (λ (b : Words). with_words b (a + 4) ws) (word_last before a w all)
    ∙ words_last (before ++ (a, w) ∷ []) (a + 4) ws (below_further before a w all)
    ∙ append_assoc before ((a, w) ∷ []) (entries_from (a + 4) ws)

-- ## Where a run lies

run_lies : (a w : ℕ) (ws : List ℕ) → AreAllowed (entries_from a (w ∷ ws)) → Lies a (a + 4 * suc (length ws))
run_lies a w [] all = lies_one a all.0
run_lies a w (v ∷ ws) all =
    let to : a + 4 + 4 * suc (length ws) ≡ a + 4 * suc (suc (length ws)) = omega arith in
    lies_more a (a + 4 * suc (suc (length ws))) all.0 (subst (Lies (a + 4)) to (run_lies (a + 4) v ws all.1)) (omega arith)

none_overlaps : (before : Words) (a n : ℕ) → AllByRecursion (λ e. e.0 < a) before → overlaps before a n ≡ false
none_overlaps [] a n all = refl
none_overlaps (e ∷ before) a n all = or_from _ _ (let lt : e.0 < a = all.0 in grind (arith, nat_tests, lt)) (none_overlaps before a n all.1)

pub no_fault : (words : Words) (a n : ℕ) → CanStand words a n → segment_fault words a n ≡ None
no_fault words a n can =
    let even : (a % 4 == 0) ≡ true = eq-eqb (a % 4) 0 can.aligned in
    let some : (n == 0) ≡ false = ne_eqb n 0 (λ none. let more = can.some in omega (arith, none, more)) in
    let lies = lies_in a (a + 4 * n) can.lies in
    let few : nat_lt 65536 (length words + n) ≡ false = le-ltb 65536 (length words + n) can.few in
    rw (even, some, lies, few, can.apart) refl

-- ## One segment, and all

one_follows : (before more : Words) (a : ℕ) (ws : List ℕ) → 0 < length ws → Ascends (before ++ (entries_from a ws ++ more)) → AreAllowed (before ++ (entries_from a ws ++ more))
    → length (before ++ (entries_from a ws ++ more)) ≤ 65536 → (segment_fault before a (length ws) ≡ None) × (with_words before a ws ≡ before ++ entries_from a ws)
one_follows before more a [] some up may few = absurd (omega (arith, some))
one_follows before more a (w ∷ ws) some up may few =
    let below = below_next before (entries_from (a + 4) ws ++ more) (a, w) up in
    let stand = (all_parts (λ e. IsTrue (may_hold e.0)) (entries_from a (w ∷ ws)) more (all_parts (λ e. IsTrue (may_hold e.0)) before (entries_from a (w ∷ ws) ++ more) may).1).0 in
    let len = length-append before (entries_from a (w ∷ ws) ++ more) in
    let run = length-append (entries_from a (w ∷ ws)) more in
    let count = length_entries a (w ∷ ws) in (
      no_fault before a (suc (length ws)) (record {
        aligned = (may_parts a stand.0).0;
        some = some;
        lies = run_lies a w ws stand;
        few = omega (arith, few, len, run, count);
        apart = none_overlaps before a (suc (length ws)) below;
      }),
      words_last before a (w ∷ ws) below,
    )
  where
    length_entries : (b : ℕ) (vs : List ℕ) → length (entries_from b vs) ≡ length vs
    length_entries b [] = refl
    length_entries b (v ∷ vs) = ap suc (length_entries (b + 4) vs)

follow_on : (segments : List Segment) (before : Words) → AllByRecursion IsFull segments → Ascends (before ++ entries segments) → AreAllowed (before ++ entries segments)
    → length (before ++ entries segments) ≤ 65536 → CanFollow before segments × (with_segments before segments ≡ before ++ entries segments)
follow_on [] before full up may few = (tt, sym (append-nil before))
follow_on (s ∷ rest) before full up may few =
    let run = entries_from s.address s.words in
    let one = one_follows before (entries rest) s.address s.words full.0.0 up may few in
    let same : before ++ (run ++ entries rest) ≡ (before ++ run) ++ entries rest = sym (append_assoc before run (entries rest)) in
    let others = follow_on rest (before ++ run) full.1 (subst Ascends same up) (subst AreAllowed same may) (subst (λ (ws : Words). length ws ≤ 65536) same few) in
    ((one.0, subst (λ (b : Words). CanFollow b rest) (sym one.1) others.0), ap (λ (b : Words). with_segments b rest) one.1 ∙ others.1 ∙ append_assoc before run (entries rest))

-- the maximal runs of an image's words spell it
pub segments_spell : (words : Words) → AreWhole words → Spell (segments_of words) words
segments_spell words whole =
    let same = entries_of words in
    let full = full_segments words whole.numbers in
    let count = runs.counted words in
    let few = whole.few_runs in
    let all = follow_on (segments_of words) [] full (subst Ascends (sym same) whole.ascends) (subst AreAllowed (sym same) whole.allowed) (subst (λ (ws : Words). length ws ≤ 65536) (sym same) whole.few_words) in
    record { few = omega (arith, count, few); numbers = numbers_of (segments_of words) full; follow = all.0; words_are = sym (all.1 ∙ same) }
