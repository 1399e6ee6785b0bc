-- The words of a segment, put one after another.
use Rattle.std.proofs.Common.{◌≡◌, ◌≢◌, ◌∙◌, ℕ, zero, suc, ◌+◌, ◌-◌, ◌*◌, ◌%◌, ◌<◌, ◌≤◌, Bool, true, false, cond, eqb, List, [], ◌∷◌, ◌++◌, length, drop, Option, Some, None, refl, sym, ap, inl, inr, arith}
use Rattle.std.specs.Prelude.{◌||◌, ◌⊎◌, not, nat_le, nat_lt, IsTrue, is_some, ◌==◌}
use Rattle.std.proofs.lemmas.List.{drop-drop}
use Rattle.std.proofs.lemmas.Bool.{cases_lt, cases_eq, le-ltb, lt-ltb, ne_eqb, eq-eqb, or_parts}
use Rattle.std.proofs.lemmas.Bool.Decides.{nat_tests}
use Rattle.std.proofs.lemmas.Option.{same_Some}
use Rattle.byteorder.specs.Endian.{little_number}
use Rattle.image.specs.Image.{Words, lies_in_memory, may_hold, put_fault, runs_of, with_word, word_of}
use Rattle.image.specs.ImageBytes.{numbers, overlaps, segment_fault, with_words}
use Rattle.image.specs.Inside.{AreWhole, IsPartly}
use Rattle.image.specs.declared.image.ImageFault.{ImageFault}
use Rattle.image.specs.declared.image.ImageFault.TheVariants as image
use Rattle.image.specs.declared.places.TheConstants.{MOST_SEGMENTS}
use Rattle.image.specs.declared.reading.ReadFault.{ReadFault}
use Rattle.image.specs.declared.reading.ReadFault.TheVariants.{OutOfRange, Misaligned, Overlap}
use Rattle.image.proofs.PlaceLemmas.{Lies, lies_in, may_within}
use Rattle.image.proofs.WordLemmas.{has, quads, length_with_word, runs_of-with_word}

-- ## One word more

pub word_of_here : (words : Words) (a w : ℕ) → word_of words a ≡ None → word_of (with_word words a w) a ≡ Some w
word_of_here [] a w none = rw (eq-eqb a a refl) refl
word_of_here (e ∷ rest) a w none = elim (cases_lt a e.0) [
  | inl lt ↦ rw (lt-ltb a e.0 lt, eq-eqb a a refl) refl
  | inr le ↦ elim (cases_eq e.0 a) [
    | inl same ↦ absurd (cc (none, ap (λ (b : Bool). cond b (Some e.1) (word_of rest a)) (eq-eqb e.0 a same)))
    | inr other ↦ rw (le-ltb a e.0 le, ne_eqb e.0 a other) (word_of_here rest a w (rw (ne_eqb e.0 a other) at none))
  ]
]

pub word_of_apart : (words : Words) (a w b : ℕ) → a ≢ b → word_of (with_word words a w) b ≡ word_of words b
word_of_apart [] a w b apart = rw (ne_eqb a b apart) refl
word_of_apart (e ∷ rest) a w b apart = elim (cases_lt a e.0) [
  | inl lt ↦ rw (lt-ltb a e.0 lt, ne_eqb a b apart) refl
  | inr le ↦ rw (le-ltb a e.0 le) (ap (λ (o : Option ℕ). cond (eqb e.0 b) (Some e.1) o) (word_of_apart rest a w b apart))
]

-- ## Numbers and words in a row

pub length_numbers : (count : ℕ) (bytes : List ℕ) → length (numbers count bytes) ≡ count
length_numbers zero bytes = refl
length_numbers (suc count) bytes = ap suc (length_numbers count (drop 4 bytes))

pub numbers_more : (count : ℕ) (bytes : List ℕ) → numbers (suc count) bytes ≡ numbers count bytes ++ little_number 4 (drop (4 * count) bytes) ∷ []
numbers_more zero bytes = refl
numbers_more (suc count) bytes = ap (λ (ns : List ℕ). little_number 4 bytes ∷ ns) (numbers_more count (drop 4 bytes) ∙ ap (λ (bs : List ℕ). numbers count (drop 4 bytes) ++ little_number 4 bs ∷ []) (drop-drop (4 * count) 4 bytes ∙ ap (λ (n : ℕ). drop n bytes) (omega arith)))

pub with_words_more : (words : Words) (a : ℕ) (ws : List ℕ) (w : ℕ) → with_words words a (ws ++ w ∷ []) ≡ with_word (with_words words a ws) (a + 4 * length ws) w
with_words_more words a [] w = ap (λ (b : ℕ). with_word words b w) (omega arith)
with_words_more words a (v ∷ ws) w = with_words_more (with_word words a v) (a + 4) ws w ∙ ap (λ (b : ℕ). with_word (with_words (with_word words a v) (a + 4) ws) b w) (omega arith)

-- ## Where a segment can be

pub record CanStand (words : Words) (address count : ℕ) : Type 0 where
  pub aligned : address % 4 ≡ 0
  pub some : 0 < count
  pub lies : Lies address (address + 4 * count)
  pub few : length words + count ≤ 65536
  pub apart : overlaps words address count ≡ false

fault_parts : (odd none long over : Bool) → cond odd (Some Misaligned) (cond (none || long) (Some OutOfRange) (cond over (Some Overlap) None)) ≡ None → (odd ≡ false) × (none ≡ false) × (long ≡ false) × (over ≡ false)
fault_parts true none long over e = absurd (cc)
fault_parts false true long over e = absurd (cc)
fault_parts false false true over e = absurd (cc)
fault_parts false false false true e = absurd (cc)
fault_parts false false false false e = (refl, refl, refl, refl)

pub can_stand : (words : Words) (address count : ℕ) → segment_fault words address count ≡ None → CanStand words address count
can_stand words address count e =
    let p = fault_parts (not (address % 4 == 0)) (count == 0) (not (lies_in_memory address (address + 4 * count)) || nat_lt 65536 (length words + count)) (overlaps words address count) e in
    let zero_count = p.1 in
    let odd = p.0 in
    let long = p.2 in
    record {
      aligned = grind (arith, nat_tests, odd);
      some = grind (arith, nat_tests, zero_count);
      lies = grind (arith, nat_tests, long);
      few = grind (arith, nat_tests, long);
      apart = p.3;
    }

-- a head has no other fault than these
pub no_other_fault : (f : ReadFault) → (Misaligned ≡ f → ⊥) → (OutOfRange ≡ f → ⊥) → (Overlap ≡ f → ⊥) → (words : Words) (a n : ℕ) → segment_fault words a n ≡ Some f → ⊥
no_other_fault f misaligned range overlap words a n e = by (not (a % 4 == 0)) (n == 0) (not (lies_in_memory a (a + 4 * n)) || nat_lt 65536 (length words + n)) (overlaps words a n) e
  where
    by : (odd none long over : Bool) → cond odd (Some Misaligned) (cond (none || long) (Some OutOfRange) (cond over (Some Overlap) None)) ≡ Some f → ⊥
    by true none long over e = misaligned (same_Some Misaligned f e)
    by false true long over e = range (same_Some OutOfRange f e)
    by false false true over e = range (same_Some OutOfRange f e)
    by false false false true e = overlap (same_Some Overlap f e)
    by false false false false e = absurd (cc)

pub free_from : (words : Words) (address count a : ℕ) → overlaps words address count ≡ false → address ≤ a → a < address + 4 * count → word_of words a ≡ None
free_from [] address count a none low high = refl
free_from (e ∷ rest) address count a none low high =
    let here : e.0 ≢ a = λ same. grind (arith, nat_tests, none, low, high, same) in
    rw (ne_eqb e.0 a here) (free_from rest address count a (or_parts _ _ none).1 low high)

-- ## The step of the loop

pub none_put : (old : Words) (address count : ℕ) (bytes : List ℕ) → CanStand old address count → IsPartly old address count bytes 0 old
none_put old address count bytes can = record {
  is = refl;
  free = λ a low high. free_from old address count a can.apart (omega (arith, low)) high;
  long = omega arith;
  few = omega arith;
  last = λ some. absurd (omega (arith, some));
}

may_next : (old : Words) (address count next : ℕ) → CanStand old address count → next < count → IsTrue (may_hold (address + 4 * next))
may_next old address count next can lt =
    let aligned = can.aligned in
    let even : (address + 4 * next) % 4 ≡ 0 = omega (arith, aligned) in
    may_within address (address + 4 * count) (address + 4 * next) (lies_in address (address + 4 * count) can.lies) even (omega arith)
    (omega (arith, lt))

runs_next : (old now : Words) (address count next w : ℕ) (bytes : List ℕ) → CanStand old address count → next < count → AreWhole now → IsPartly old address count bytes next now
    → runs_of (with_word now (address + 4 * next) w) ≤ runs_of old + 1
runs_next old now address count next w bytes can lt whole partly =
    let a = address + 4 * next in
    let aligned = can.aligned in
    let even : a % 4 ≡ 0 = omega (arith, aligned) in
    let free = partly.free a (omega arith) (omega (arith, lt)) in
    let more = runs_of-with_word now a w even (quads now whole.allowed) whole.ascends free in
    elim (cases_lt 0 next) [
      | inl some ↦
          let before : has now (a - 4) ≡ 1 = ap (λ (b : Bool). cond {A = ℕ} b 1 0) (partly.last some) in
          let few = partly.few in
          omega (arith, more, before, few)
      | inr first ↦
          let none : next ≡ 0 = omega (arith, first) in
          let few : runs_of now ≡ runs_of old = ap runs_of (partly.is ∙ ap (λ (n : ℕ). with_words old address (numbers n bytes)) none) in
          omega (arith, more, few)
    ]

pub can_put : (old now : Words) (address count next w : ℕ) (bytes : List ℕ) → CanStand old address count → runs_of old < MOST_SEGMENTS → next < count → AreWhole now → IsPartly old address count bytes next now
    → put_fault now (address + 4 * next) w ≡ None
can_put old now address count next w bytes can room lt whole partly =
    let a = address + 4 * next in
    let free = partly.free a (omega arith) (omega (arith, lt)) in
    let runs = runs_next old now address count next w bytes can lt whole partly in
    let few = can.few in
    let long = partly.long in
    let fits : nat_le 65536 (length now) ≡ false = grind (arith, nat_tests, few, long, lt) in
    let short : nat_lt 16 (runs_of (with_word now a w)) ≡ false = grind (arith, nat_tests, runs, room) in
    rw (may_next old address count next can lt, free, fits, short) refl

pub put_next : (old now new : Words) (address count next w : ℕ) (bytes : List ℕ) → CanStand old address count → next < count → AreWhole now → IsPartly old address count bytes next now
    → w ≡ little_number 4 (drop (4 * next) bytes) → new ≡ with_word now (address + 4 * next) w → IsPartly old address count bytes (next + 1) new
put_next old now new address count next w bytes can lt whole partly word new_is =
    let a = address + 4 * next in
    let free = partly.free a (omega arith) (omega (arith, lt)) in
    let long = partly.long in
    let length_next = length_numbers next bytes in
    let held : is_some (word_of (with_word now a w) a) ≡ true = ap is_some (word_of_here now a w free) in
    let more : suc next ≡ next + 1 = omega arith in
    let back : address + 4 * (next + 1) - 4 ≡ a = omega arith in
    let grown : with_word now a w ≡ with_words old address (numbers (suc next) bytes) =
    ap (λ (ws : Words). with_word ws a w) partly.is
    ∙ ap (λ (v : ℕ). with_word (with_words old address (numbers next bytes)) a v) word
    ∙ ap (λ (n : ℕ). with_word (with_words old address (numbers next bytes)) (address + 4 * n) (little_number 4 (drop (4 * next) bytes))) (sym length_next)
    ∙ sym (with_words_more old address (numbers next bytes) (little_number 4 (drop (4 * next) bytes)))
    ∙ ap (λ (ns : List ℕ). with_words old address ns) (sym (numbers_more next bytes)) in
    rw new_is (record {
      is = grown ∙ ap (λ (n : ℕ). with_words old address (numbers n bytes)) more;
      free = λ b low high. word_of_apart now a w b (λ same. omega (arith, low, same)) ∙ partly.free b (omega (arith, low)) high;
      long = length_with_word now a w ∙ omega (arith, long);
      few = runs_next old now address count next w bytes can lt whole partly;
      last = λ some. ap (λ (b : ℕ). is_some (word_of (with_word now a w) b)) back ∙ held;
    })

never_else : (o : Option ImageFault) (f : ImageFault) → o ≡ None → (f ≡ image.Memory → ⊥) → (f ≡ image.Memory) ⊎ (o ≡ Some f) → ⊥
never_else o f none other (inl memory) = other memory
never_else o f none other (inr some) = absurd (cc (none, some))

-- nothing but memory keeps the next word out
pub not_refused : (old now : Words) (address count next w : ℕ) (bytes : List ℕ) (f : ImageFault) → segment_fault old address count ≡ None → runs_of old < MOST_SEGMENTS → next < count → AreWhole now
    → IsPartly old address count bytes next now → (f ≡ image.Memory → ⊥) → (f ≡ image.Memory) ⊎ (put_fault now (address + 4 * next) w ≡ Some f) → ⊥
not_refused old now address count next w bytes f allowed room lt whole partly = never_else _ f (can_put old now address count next w bytes (can_stand old address count allowed) room lt whole partly)
