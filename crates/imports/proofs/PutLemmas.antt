-- Words that are put one after another.
use Rattle.std.proofs.Common.{◌≡◌, ◌∙◌, ◌⊎◌, ℕ, ◌+◌, ◌<◌, ◌≤◌, Bool, true, false, List, [], ◌∷◌, ◌++◌, drop, length, map, slice_index_or, Option, Some, None, Result, Ok, Err, refl, sym, ap, subst, inl, inr, arith}
use Rattle.std.specs.Prelude.{◌%◌, ◌==◌, min, nat_lt, not, if◌then◌else◌}
use Rattle.std.proofs.lemmas.Bool.{cases_lt, cases_eq, le-ltb, ne_eqb, eq-eqb}
use Rattle.std.proofs.lemmas.List.{at_drop_all, at_drop_more, drop_all, length-map}
use Rattle.byteorder.specs.Endian.{little_number}
use Rattle.image.specs.Image.{Words, may_hold, put_fault, with_word, word_of}
use Rattle.image.specs.declared.image.ImageFault.{ImageFault}
use Rattle.image.specs.declared.image.ImageFault.TheVariants as image_fault
use Rattle.image.proofs.SegmentLemmas.{word_of_apart, word_of_here}
use Rattle.image.proofs.WordLemmas.{may_put}
use Rattle.imports.specs.Imported.{HoldsExactly, Placed, fault_at, imported, part_words, put_each, unless, word_fault, words_from, words_of}
use Rattle.imports.specs.declared.fault.ImportFault.{ImportFault}
use Rattle.imports.specs.declared.fault.ImportFault.TheVariants.{Memory, Misaligned, OutOfRange, TooManyParts}

-- ## One part after another

more_by : (f : Option ImportFault) (x y : Result Words ImportFault) (new : Words) (all : Result Words ImportFault) → (x ≡ Ok new → y ≡ all) → unless f x ≡ Ok new → unless f y ≡ all
more_by None x y new all more is = more is
more_by (Some fault) x y new all more is = absurd (cc is)

-- what follows words that were taken
pub put_more : (words new : Words) (xs ys : Words) → put_each words xs ≡ Ok new → put_each words (xs ++ ys) ≡ put_each new ys
put_more words new [] ys is = let same : words ≡ new = cc is in ap (λ (w : Words). put_each w ys) same
put_more words new (e ∷ xs) ys is =
    let after = with_word words e.0 e.1 in
    more_by (word_fault words e.0 e.1) (put_each after xs) (put_each after (xs ++ ys)) new (put_each new ys) (put_more after new xs ys) is

stops_by : (f : Option ImportFault) (x y : Result Words ImportFault) (fault : ImportFault) → (x ≡ Err fault → y ≡ Err fault) → unless f x ≡ Err fault → unless f y ≡ Err fault
stops_by None x y fault stops is = stops is
stops_by (Some first) x y fault stops is = is

-- a refused word refuses all
pub put_stops : (words : Words) (fault : ImportFault) (xs ys : Words) → put_each words xs ≡ Err fault → put_each words (xs ++ ys) ≡ Err fault
put_stops words fault [] ys is = absurd (cc is)
put_stops words fault (e ∷ xs) ys is =
    let after = with_word words e.0 e.1 in
    stops_by (word_fault words e.0 e.1) (put_each after xs) (put_each after (xs ++ ys)) fault (put_stops after fault xs ys) is

-- ## One word after another

drop_four : (m : ℕ) (xs : List ℕ) → m ≡ min (length xs) 4 → drop m xs ≡ drop 4 xs
drop_four m xs is = elim (cases_lt (length xs) 4) [
  | inl short ↦ drop_all m xs (omega (arith, is, short)) ∙ sym (drop_all 4 xs (omega (arith, short)))
  | inr long ↦ let four : m ≡ 4 = omega (arith, is, long) in ap (λ (n : ℕ). drop n xs) four
]

-- the word that bytes begin with, and those after it
first_of : (address : ℕ) (rest : List ℕ) → (length rest == 0) ≡ false → words_from address rest ≡ (address, little_number 4 rest) ∷ words_from (address + 4) (drop 4 rest)
first_of address [] some = absurd (cc some)
first_of address (a ∷ []) some = refl
first_of address (a ∷ b ∷ []) some = refl
first_of address (a ∷ b ∷ c ∷ []) some = refl
first_of address (a ∷ b ∷ c ∷ d ∷ rest) some = refl

-- after one word more
pub put_turn : (words new : Words) (address next word m : ℕ) (rest after : List ℕ) → (length rest == 0) ≡ false → word ≡ little_number 4 rest
    → (word_fault words address word ≡ None) × (new ≡ with_word words address word) → next ≡ address + 4 → m ≡ min (length rest) 4 → after ≡ drop m rest
    → put_each words (words_from address rest) ≡ put_each new (words_from next after)
put_turn words new address next word m rest after some number taken is at left =
    ap (put_each words) (first_of address rest some)
    ∙ ap (λ (w : ℕ). put_each words ((address, w) ∷ words_from (address + 4) (drop 4 rest))) (sym number)
    ∙ ap (λ (f : Option ImportFault). unless f (put_each (with_word words address word) (words_from (address + 4) (drop 4 rest)))) taken.0
    ∙ ap (λ (w : Words). put_each w (words_from (address + 4) (drop 4 rest))) (sym taken.1)
    ∙ ap (λ (a : ℕ). put_each new (words_from a (drop 4 rest))) (sym is)
    ∙ ap (λ (bs : List ℕ). put_each new (words_from next bs)) (sym (left ∙ drop_four m rest at))

pub turn_refused : (words : Words) (address word : ℕ) (rest : List ℕ) (fault : ImportFault) → (length rest == 0) ≡ false → word ≡ little_number 4 rest
    → word_fault words address word ≡ Some fault → put_each words (words_from address rest) ≡ Err fault
turn_refused words address word rest fault some number refused =
    ap (put_each words) (first_of address rest some)
    ∙ ap (λ (w : ℕ). put_each words ((address, w) ∷ words_from (address + 4) (drop 4 rest))) (sym number)
    ∙ ap (λ (f : Option ImportFault). unless f (put_each (with_word words address word) (words_from (address + 4) (drop 4 rest)))) refused

-- ## Which words there are

fault_free : (words : Words) (a w : ℕ) (aligned may : Bool) (f : Option ImageFault)
    → (if not aligned then Some (Misaligned a) else (if not may then Some (OutOfRange a) else fault_at a f)) ≡ None → f ≡ None
fault_free words a w true true None is = refl
fault_free words a w true true (Some image_fault.Memory) is = absurd (cc is)
fault_free words a w true true (Some image_fault.OutOfRange) is = absurd (cc is)
fault_free words a w true true (Some image_fault.TooLong) is = absurd (cc is)
fault_free words a w true false f is = absurd (cc is)
fault_free words a w false may f is = absurd (cc is)

-- a word is put where there is none
put_free : (words : Words) (a w : ℕ) → word_fault words a w ≡ None → word_of words a ≡ None
put_free words a w is = (may_put words a w (fault_free words a w (a % 4 == 0) (may_hold a) (put_fault words a w) is)).free

-- the first, if it is one
abbrev first_or : Option ℕ → Option ℕ → Option ℕ
first_or None other = other
first_or (Some w) other = Some w

kept : (words : Words) (e : ℕ × ℕ) (rest : Words) (b : ℕ) → word_of words e.0 ≡ None
    → first_or (word_of (with_word words e.0 e.1) b) (word_of rest b) ≡ first_or (word_of words b) (word_of (e ∷ rest) b)
kept words e rest b free = elim (cases_eq e.0 b) [
  | inl same ↦
      let here : word_of (with_word words e.0 e.1) b ≡ Some e.1 = ap (word_of (with_word words e.0 e.1)) (sym same) ∙ word_of_here words e.0 e.1 free in
      let none : word_of words b ≡ None = ap (word_of words) (sym same) ∙ free in
      rw (here, none, eq-eqb e.0 b same) refl
  | inr other ↦ rw (word_of_apart words e.0 e.1 b other, ne_eqb e.0 b other) refl
]

found_by : (f : Option ImportFault) (x : Result Words ImportFault) (new : Words) (A : Type 0) → (f ≡ None → x ≡ Ok new → A) → unless f x ≡ Ok new → A
found_by None x new A found is = found refl is
found_by (Some fault) x new A found is = absurd (cc is)

holds_more : (words new xs : Words) → put_each words xs ≡ Ok new → (b : ℕ) → word_of new b ≡ first_or (word_of words b) (word_of xs b)
holds_more words new [] is b = let same : words ≡ new = cc is in ap (λ (w : Words). word_of w b) (sym same) ∙ alone (word_of words b)
  where
    alone : (o : Option ℕ) → o ≡ first_or o None
    alone None = refl
    alone (Some w) = refl
holds_more words new (e ∷ rest) is b =
    let after = with_word words e.0 e.1 in
    found_by (word_fault words e.0 e.1) (put_each after rest) new (word_of new b ≡ first_or (word_of words b) (word_of (e ∷ rest) b))
    (λ free more. holds_more after new rest more b ∙ kept words e rest b (put_free words e.0 e.1 free)) is

pub put_holds : (new xs : Words) → put_each [] xs ≡ Ok new → HoldsExactly new xs
put_holds new xs is = λ b. holds_more [] new xs is b

-- ## Part after part

chosen_few : (b : Bool) (x y : Result Words ImportFault) → b ≡ false → (if b then x else y) ≡ y
chosen_few false x y is = refl
chosen_few true x y is = absurd (cc is)

imported_few : (parts : List Placed) → length parts ≤ 16 → imported parts ≡ put_each [] (words_of parts)
imported_few parts few = chosen_few (nat_lt 16 (length parts)) (Err TooManyParts) (put_each [] (words_of parts)) (le-ltb 16 (length parts) few)

module _ {P : Type 0} (placed : P → Placed) (parts : List P) (i : ℕ) (words : Words)
    (so_far : put_each [] (words_of (map placed parts)) ≡ put_each words (words_of (map placed (drop i parts)))) (more : i < length parts) where
  abbrev of_next : P → Words
  of_next part = part_words (placed part)

  next : (d : P) → put_each [] (words_of (map placed parts)) ≡ put_each words (of_next (slice_index_or parts i d) ++ words_of (map placed (drop (i + 1) parts)))
  next d = so_far ∙ at_drop_more (λ (ps : List P). put_each words (words_of (map placed ps))) parts i d more

  pub part_put : (d : P) (new : Words) → put_each words (of_next (slice_index_or parts i d)) ≡ Ok new → put_each [] (words_of (map placed parts)) ≡ put_each new (words_of (map placed (drop (i + 1) parts)))
  part_put d new is = next d ∙ put_more words new (of_next (slice_index_or parts i d)) (words_of (map placed (drop (i + 1) parts))) is

  pub part_refused : (d : P) (fault : ImportFault) → length parts ≤ 16 → (fault ≡ Memory) ⊎ (put_each words (of_next (slice_index_or parts i d)) ≡ Err fault)
      → (fault ≡ Memory) ⊎ (imported (map placed parts) ≡ Err fault)
  part_refused d fault few (inl memory) = inl memory
  part_refused d fault few (inr is) =
      inr (imported_few (map placed parts) (subst (λ (n : ℕ). n ≤ 16) (sym (length-map parts placed)) few) ∙ next d ∙ put_stops words fault (of_next (slice_index_or parts i d)) (words_of (map placed (drop (i + 1) parts))) is)

-- after the last
pub put_all : {P : Type 0} (placed : P → Placed) (parts : List P) (i : ℕ) (words : Words)
    → put_each [] (words_of (map placed parts)) ≡ put_each words (words_of (map placed (drop i parts))) → length parts ≤ i → put_each [] (words_of (map placed parts)) ≡ Ok words
put_all {P} placed parts i words so_far end = so_far ∙ at_drop_all (λ (ps : List P). put_each words (words_of (map placed ps))) parts i end
