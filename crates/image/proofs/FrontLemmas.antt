-- What begins an image's bytes is Truncated.
use Rattle.std.proofs.Common.{◌≡◌, ◌≢◌, ◌∙◌, ℕ, zero, suc, ◌+◌, ◌-◌, ◌*◌, ◌%◌, ◌<◌, ◌≤◌, ◌⊎◌, Bool, true, false, cond, List, [], ◌∷◌, ◌++◌, length, take, drop, None, Result, Ok, Err, refl, sym, ap, subst, inl, inr, arith, length-append, length-drop}
use Rattle.std.specs.Prelude.{◌&&◌, ◌||◌, ◌==◌, not, nat_lt}
use Rattle.std.specs.Str.{bytes_eq}
use Rattle.std.specs.Cmp.Lexicographic.{bytes_decides}
use Rattle.std.proofs.lemmas.Bool.{cases_lt, cases_eq, eq-eqb, ne_eqb, le-ltb, lt-ltb, ltb-false}
use Rattle.std.proofs.lemmas.Bool.Decides.{nat_tests}
use Rattle.std.proofs.lemmas.List.{append-nil, drop-append-le, take-append-le, take_all}
use Rattle.std.proofs.Math.Seq.{take-append_seam, take-append-add}
use Rattle.byteorder.specs.Endian.{little_number}
use Rattle.image.specs.Image.{Words, with_word}
use Rattle.image.specs.ImageBytes.{count_read, cut_fault, end_fault, head_address, head_count, image_read, is_taken, magic, numbers, overlaps, segment_fault, segments_read, with_words}
use Rattle.image.specs.Spelling.{AreImage, BeginImage}
use Rattle.image.specs.declared.reading.ReadFault.{ReadFault}
use Rattle.image.specs.declared.reading.ReadFault.TheVariants.{BadMagic, Misaligned, OutOfRange, Overlap, Truncated}
use Rattle.image.proofs.PlaceLemmas.{lies_in, may_within}
use Rattle.image.proofs.AcceptLemmas.{count_parts, head_counted, magic_parts, number_front, ok_parts, whole_part}
use Rattle.image.proofs.SegmentLemmas.{CanStand, can_stand, free_from, length_numbers}
use Rattle.image.proofs.SpellLemmas.{read_step, spelled_read}
use Rattle.image.proofs.WordLemmas.{length_with_word}
use Rattle.image.proofs.WrittenLemmas.{no_fault}

-- ## Segments that are read

-- a segment whose head and words are whole
record IsWhole (left : ℕ) (before words : Words) (bytes : List ℕ) : Type 0 where
  no_fault : segment_fault before (head_address bytes) (head_count bytes) ≡ None
  long : 8 + 4 * head_count bytes ≤ length bytes
  later : segments_read left (with_words before (head_address bytes) (numbers (head_count bytes) (drop 8 bytes))) (drop (8 + 4 * head_count bytes) bytes) ≡ Ok words

is_whole : (left : ℕ) (before words : Words) (bytes : List ℕ) → segments_read (suc left) before bytes ≡ Ok words → IsWhole left before words bytes
is_whole left before words bytes e =
    let p = ok_parts (segment_fault before (head_address bytes) (head_count bytes)) (nat_lt (length bytes) (8 + 4 * head_count bytes)) _ _ words (whole_part (nat_lt (length bytes) 4) (cut_fault before left bytes) _ words e) in
    record { no_fault = p.0; long = ltb-false (length bytes) (8 + 4 * head_count bytes) p.1; later = p.2 }

length_words : (words : Words) (a : ℕ) (ws : List ℕ) → length (with_words words a ws) ≡ length words + length ws
length_words words a [] = omega arith
length_words words a (w ∷ ws) =
    let one = length_with_word words a w in
    let more = length_words (with_word words a w) (a + 4) ws in
    omega (arith, one, more)

length_read : (words : Words) (a n : ℕ) (bytes : List ℕ) → length (with_words words a (numbers n bytes)) ≡ length words + n
length_read words a n bytes =
    let all = length_words words a (numbers n bytes) in
    let count = length_numbers n bytes in
    omega (arith, all, count)

-- each segment to come has a word at least
few_to_come : (left : ℕ) (before words : Words) (bytes : List ℕ) → length before ≤ 65536 → segments_read left before bytes ≡ Ok words → length before + left ≤ 65536
few_to_come zero before words bytes few e = omega (arith, few)
few_to_come (suc left) before words bytes few e =
    let whole = is_whole left before words bytes e in
    let can = can_stand before (head_address bytes) (head_count bytes) whole.no_fault in
    let some = can.some in
    let most = can.few in
    let len = length_read before (head_address bytes) (head_count bytes) (drop 8 bytes) in
    let later = few_to_come left _ words (drop (8 + 4 * head_count bytes) bytes) (omega (arith, len, most)) whole.later in
    omega (arith, later, len, some)

-- ## Numbers of which the front is there

module _ (more : List ℕ) where
  number_less : (bytes : List ℕ) → little_number 4 bytes ≤ little_number 4 (bytes ++ more)
  number_less [] = omega arith
  number_less (a ∷ []) = omega arith
  number_less (a ∷ b ∷ []) = omega arith
  number_less (a ∷ b ∷ c ∷ []) = omega arith
  number_less (a ∷ b ∷ c ∷ d ∷ rest) = omega arith

  -- with a 1 after it, where a number that is not 0 has only 0s in front
  one_less : (bytes : List ℕ) → little_number 4 bytes ≡ 0 → 0 < little_number 4 (bytes ++ more) → little_number 4 (bytes ++ 1 ∷ []) ≤ little_number 4 (bytes ++ more)
  one_less [] none some = omega (arith, some)
  one_less (a ∷ []) none some = omega (arith, none, some)
  one_less (a ∷ b ∷ []) none some = omega (arith, none, some)
  one_less (a ∷ b ∷ c ∷ []) none some = omega (arith, none, some)
  one_less (a ∷ b ∷ c ∷ d ∷ rest) none some = omega (arith, none, some)

  -- a count that is not 0 is no less than what its front says
  count_less : (bytes : List ℕ) → 4 ≤ length bytes → 8 ≤ length (bytes ++ more) → 0 < head_count (bytes ++ more) → head_count bytes ≤ head_count (bytes ++ more)
  count_less bytes some long positive =
      let all = head_counted (bytes ++ more) long in
      let split = drop-append-le 4 bytes more some in
      let is : head_count (bytes ++ more) ≡ little_number 4 (drop 4 bytes ++ more) = all ∙ ap (λ (bs : List ℕ). little_number 4 bs) split in
      elim (cases_eq (little_number 4 (drop 4 bytes)) 0) [
        | inl none ↦
            let least : head_count bytes ≡ little_number 4 (drop 4 bytes ++ 1 ∷ []) = rw (eq-eqb _ _ none) refl in
            let less = one_less (drop 4 bytes) none (omega (arith, is, positive)) in
            omega (arith, is, least, less)
        | inr other ↦
            let here : head_count bytes ≡ little_number 4 (drop 4 bytes) = rw (ne_eqb _ _ other) refl in
            let less = number_less (drop 4 bytes) in
            omega (arith, is, here, less)
      ]

numbers_front : (n : ℕ) (bytes more : List ℕ) → 4 * n ≤ length bytes → numbers n (bytes ++ more) ≡ numbers n bytes
numbers_front zero bytes more long = refl
numbers_front (suc n) bytes more long =
    let len = length-drop 4 bytes in
    let first : little_number 4 (bytes ++ more) ≡ little_number 4 bytes = number_front bytes more (omega (arith, long)) in
    ap (λ (w : ℕ). w ∷ numbers n (drop 4 (bytes ++ more))) first
    ∙ ap (λ (ws : List ℕ). little_number 4 bytes ∷ ws) (ap (λ (bs : List ℕ). numbers n bs) (drop-append-le 4 bytes more (omega (arith, long))) ∙ numbers_front n (drop 4 bytes) more (omega (arith, long, len)))

one_some : (bytes : List ℕ) → length bytes < 4 → 0 < little_number 4 (bytes ++ 1 ∷ [])
one_some [] short = omega arith
one_some (a ∷ []) short = omega arith
one_some (a ∷ b ∷ []) short = omega arith
one_some (a ∷ b ∷ c ∷ []) short = omega arith
one_some (a ∷ b ∷ c ∷ d ∷ rest) short = absurd (omega (arith, short))

-- a segment that ends too early has words
count_some : (bytes : List ℕ) → length bytes < 8 + 4 * head_count bytes → 0 < head_count bytes
count_some bytes short = elim (cases_lt 0 (head_count bytes)) [
  | inl some ↦ some
  | inr none ↦
      let len = length-drop 4 bytes in
      elim (cases_eq (little_number 4 (drop 4 bytes)) 0) [
        | inl zero_number ↦
            let least : head_count bytes ≡ little_number 4 (drop 4 bytes ++ 1 ∷ []) = rw (eq-eqb _ _ zero_number) refl in
            let some = one_some (drop 4 bytes) (omega (arith, len, short, none)) in
            omega (arith, least, some)
        | inr other ↦
            let here : head_count bytes ≡ little_number 4 (drop 4 bytes) = rw (ne_eqb _ _ other) refl in
            omega (arith, here, other)
      ]
]

-- ## The front of one segment

-- where a segment can be, fewer words of it can
fewer_stand : (words : Words) (a n m : ℕ) → CanStand words a n → 0 < m → m ≤ n → CanStand words a m
fewer_stand words a n m can some le =
    let few = can.few in
    record {
      aligned = can.aligned;
      some = some;
      lies = elim can.lies [ inl low ↦ inl (omega (arith, low, le)) | inr high ↦ let most = high.1 in inr (high.0, omega (arith, most, le)) ];
      few = omega (arith, few, le);
      apart = still_apart words (can.apart);
    }
  where
    still_apart : (ws : Words) → overlaps ws a n ≡ false → overlaps ws a m ≡ false
    still_apart [] e = refl
    still_apart (f ∷ ws) e = by _ _ _ _ (λ here. grind (arith, nat_tests, here, le)) (still_apart ws) e
      where
        by : (x y u v : Bool) → (x ≡ false → u ≡ false) → (y ≡ false → v ≡ false) → (x || y) ≡ false → (u || v) ≡ false
        by true y u v p q e = absurd (cc)
        by false true u v p q e = absurd (cc)
        by false false u v p q e = rw (p refl, q refl) refl

ends : (named left : ℕ) → named + left ≤ 65536 → end_fault named left ≡ Truncated
ends named left few = rw (le-ltb 65536 (named + left) few) refl

-- a segment whose head has its address, and that ends too early
short_front : (left : ℕ) (before : Words) (bytes : List ℕ) → 4 ≤ length bytes → segment_fault before (head_address bytes) (head_count bytes) ≡ None → length bytes < 8 + 4 * head_count bytes
    → length before + head_count bytes + left ≤ 65536 → segments_read (suc left) before bytes ≡ Err Truncated
short_front left before bytes some none short few =
    let count = head_count bytes in
    rw (le-ltb (length bytes) 4 some, none, lt-ltb (length bytes) (8 + 4 * count) short, le-ltb 65536 (length before + count + left) few) refl

-- an address where a word can be put
free_at : (words : Words) (a n : ℕ) → CanStand words a n → is_taken words a ≡ false
free_at words a n can =
    let some = can.some in
    let a4 = can.aligned in
    let none = free_from words a n a can.apart (omega arith) (omega (arith, some)) in
    let holds = may_within a (a + 4 * n) a (lies_in a (a + 4 * n) can.lies) a4 (omega arith) (omega (arith, some)) in
    rw (holds, none) refl

four_taken : (t : ℕ → Bool) (h : ℕ) → h < 4 → t h ≡ false → (t 0 && (t 1 && (t 2 && t 3))) ≡ false
four_taken t zero few free = rw free refl
four_taken t (suc zero) few free = second (t 0) (t 1) _ free
  where
    second : (p q r : Bool) → q ≡ false → (p && (q && r)) ≡ false
    second true q r e = rw e refl
    second false q r e = refl
four_taken t (suc (suc zero)) few free = third (t 0) (t 1) (t 2) _ free
  where
    third : (p q r s : Bool) → r ≡ false → (p && (q && (r && s))) ≡ false
    third true true r s e = rw e refl
    third true false r s e = refl
    third false q r s e = refl
four_taken t (suc (suc (suc zero))) few free = fourth (t 0) (t 1) (t 2) (t 3) free
  where
    fourth : (p q r s : Bool) → s ≡ false → (p && (q && (r && s))) ≡ false
    fourth true true true s e = e
    fourth true true false s e = refl
    fourth true false r s e = refl
    fourth false q r s e = refl
four_taken t (suc (suc (suc (suc h)))) few free = absurd (omega (arith, few))

by_cut : (odd long taken : Bool) → odd ≡ false → long ≡ false → taken ≡ false → cond odd Misaligned (cond long OutOfRange (cond taken Overlap Truncated)) ≡ Truncated
by_cut odd long taken p q r = rw (p, q, r) refl

-- a head that ends within the address
cut_front : (left : ℕ) (before : Words) (bytes more : List ℕ) (n : ℕ) → length bytes < 4 → CanStand before (head_address (bytes ++ more)) n → length before + suc left ≤ 65536 → cut_fault before left bytes ≡ Truncated
cut_front left before [] more n cut can few = by_cut _ _ _ refl (le-ltb 65536 (length before + suc left) few) refl
cut_front left before (x ∷ []) more n cut can few =
    let a4 = can.aligned in
    by_cut (not (little_number 4 (x ∷ []) % 4 == 0)) _ _ (grind (arith, nat_tests, a4)) (le-ltb 65536 (length before + suc left) few) refl
cut_front left before (x ∷ y ∷ []) more n cut can few =
    let a4 = can.aligned in
    by_cut (not (little_number 4 (x ∷ y ∷ []) % 4 == 0)) _ _ (grind (arith, nat_tests, a4)) (le-ltb 65536 (length before + suc left) few) refl
cut_front left before (x ∷ y ∷ z ∷ []) more n cut can few =
    let a4 = can.aligned in
    let low = little_number 4 (x ∷ y ∷ z ∷ []) in
    let a = head_address (x ∷ y ∷ z ∷ more) in
    let h = little_number 1 more in
    let is : a ≡ low + 0x1000000 * h = omega arith in
    let most : h < 4 = (let some = can.some in elim can.lies [ inl under ↦ omega (arith, is, under, some) | inr over ↦ let top = over.1 in omega (arith, is, top, some) ]) in
    let free : is_taken before (low + 0x1000000 * h) ≡ false = subst (λ (b : ℕ). is_taken before b ≡ false) is (free_at before a n can) in
    by_cut (not (low % 4 == 0)) _ _ (grind (arith, nat_tests, a4)) (le-ltb 65536 (length before + suc left) few) (four_at h most free)
  where
    low : ℕ
    low = little_number 4 (x ∷ y ∷ z ∷ [])

    four_at : (h : ℕ) → h < 4 → is_taken before (low + 0x1000000 * h) ≡ false
        → (is_taken before low && (is_taken before (low + 0x1000000) && (is_taken before (low + 0x2000000) && is_taken before (low + 0x3000000)))) ≡ false
    four_at h few free =
        let none : low + 0x1000000 * 0 ≡ low = omega arith in
        ap (λ (b : ℕ). is_taken before b && (is_taken before (low + 0x1000000) && (is_taken before (low + 0x2000000) && is_taken before (low + 0x3000000)))) (sym none)
        ∙ four_taken (λ (k : ℕ). is_taken before (low + 0x1000000 * k)) h few free
cut_front left before (x ∷ y ∷ z ∷ u ∷ rest) more n cut can few = absurd (omega (arith, cut))

-- ## All segments

front_read : (left : ℕ) (before words : Words) (bytes more : List ℕ) → 0 < length more → length before ≤ 65536 → segments_read left before (bytes ++ more) ≡ Ok words → segments_read left before bytes ≡ Err Truncated
front_read zero before words [] [] some few e = absurd (omega (arith, some))
front_read zero before words [] (m ∷ more) some few e = absurd (cc)
front_read zero before words (b ∷ bytes) more some few e = absurd (cc)
front_read (suc left) before words bytes more some few e =
    let whole = is_whole left before words (bytes ++ more) e in
    let a = head_address (bytes ++ more) in
    let n = head_count (bytes ++ more) in
    let can = can_stand before a n whole.no_fault in
    let long = whole.long in
    let positive = can.some in
    let most = can.few in
    let len = length-append bytes more in
    let len_new = length_read before a n (drop 8 (bytes ++ more)) in
    let to_come = few_to_come left _ words (drop (8 + 4 * n) (bytes ++ more)) (omega (arith, len_new, most)) whole.later in
    elim (cases_lt (length bytes) 4) [
      | inl cut ↦ let all = cut_front left before bytes more n cut can (omega (arith, to_come, len_new, positive)) in rw (lt-ltb (length bytes) 4 cut, all) refl
      | inr has_address ↦
          let same : head_address bytes ≡ a = sym (number_front bytes more has_address) in
          let less = count_less more bytes has_address (omega (arith, long)) positive in
          elim (cases_lt (length bytes) (8 + 4 * head_count bytes)) [
            | inl short ↦
                let fewer : CanStand before a (head_count bytes) = fewer_stand before a n (head_count bytes) can (count_some bytes short) less in
                let none : segment_fault before (head_address bytes) (head_count bytes) ≡ None = ap (λ (b : ℕ). segment_fault before b (head_count bytes)) same ∙ no_fault before a (head_count bytes) fewer in
                short_front left before bytes has_address none short (omega (arith, to_come, len_new, less))
            | inr enough ↦
                let here : head_count bytes ≡ n =
                head_counted bytes (omega (arith, enough)) ∙ sym (number_front (drop 4 bytes) more (let l = length-drop 4 bytes in omega (arith, l, enough)))
                ∙ ap (λ (bs : List ℕ). little_number 4 bs) (sym (drop-append-le 4 bytes more has_address)) ∙ sym (head_counted (bytes ++ more) (omega (arith, long))) in
                let new = with_words before a (numbers n (drop 8 (bytes ++ more))) in
                let ns : numbers n (drop 8 bytes) ≡ numbers n (drop 8 (bytes ++ more)) =
                sym (ap (λ (bs : List ℕ). numbers n bs) (drop-append-le 8 bytes more (omega (arith, enough))) ∙ numbers_front n (drop 8 bytes) more (let l = length-drop 8 bytes in omega (arith, l, enough, here))) in
                let none : segment_fault before a n ≡ None = whole.no_fault in
                let rest : drop (8 + 4 * n) (bytes ++ more) ≡ drop (8 + 4 * n) bytes ++ more = drop-append-le (8 + 4 * n) bytes more (omega (arith, enough, here)) in
                read_step left before new bytes (drop (8 + 4 * n) bytes) a n same here none (omega (arith, enough, here)) (ap (λ (ws : List ℕ). with_words before a ws) ns) refl
                ∙ front_read left new words (drop (8 + 4 * n) bytes) more some (omega (arith, len_new, most)) (ap (λ (bs : List ℕ). segments_read left new bs) (sym rest) ∙ whole.later)
          ]
    ]

-- ## The magic and the number of segments

count_front : (body more : List ℕ) (words : Words) → 0 < length more → count_read (body ++ more) ≡ Ok words → count_read body ≡ Err Truncated
count_front body more words some e =
    let q = count_parts (nat_lt 16 (little_number 4 (body ++ more))) (nat_lt (length (body ++ more)) 4) _ words e in
    let few : little_number 4 (body ++ more) ≤ 16 = ltb-false 16 (little_number 4 (body ++ more)) q.0 in
    let less = number_less more body in
    let here : nat_lt 16 (little_number 4 body) ≡ false = le-ltb 16 (little_number 4 body) (omega (arith, few, less)) in
    elim (cases_lt (length body) 4) [
      | inl cut ↦ rw (here, lt-ltb (length body) 4 cut) refl
      | inr whole ↦
          let same : little_number 4 (body ++ more) ≡ little_number 4 body = number_front body more whole in
          let rest : drop 4 (body ++ more) ≡ drop 4 body ++ more = drop-append-le 4 body more whole in
          let read : segments_read (little_number 4 body) [] (drop 4 body ++ more) ≡ Ok words =
          ap (λ (n : ℕ). segments_read n [] (drop 4 body ++ more)) (sym same) ∙ ap (λ (bs : List ℕ). segments_read (little_number 4 (body ++ more)) [] bs) (sym rest) ∙ q.2 in
          let cut = front_read (little_number 4 body) [] words (drop 4 body) more some (omega arith) read in
          rw (here, le-ltb (length body) 4 whole) cut
    ]

begun_read : (bytes more : List ℕ) (words : Words) → 0 < length more → image_read (bytes ++ more) ≡ Ok words → image_read bytes ≡ Err Truncated
begun_read bytes more words some e =
    let all = bytes ++ more in
    let p = magic_parts (bytes_eq (take 8 all) (take (length all) magic)) (nat_lt (length all) 8) _ words e in
    let long : 8 ≤ length all = ltb-false (length all) 8 p.1 in
    let begins : take 8 all ≡ magic = (bytes_decides (take 8 all) (take (length all) magic)).0 p.0 ∙ take_all (length all) magic long in
    elim (cases_lt (length bytes) 8) [
      | inl short ↦
          let n = length bytes in
          let eight : 8 ≡ n + (8 - n) = omega (arith, short) in
          let split : magic ≡ bytes ++ take (8 - n) more = sym begins ∙ ap (λ (k : ℕ). take k all) eight ∙ take-append-add bytes more (8 - n) in
          let same : take 8 bytes ≡ take n magic = take_all 8 bytes (omega (arith, short)) ∙ sym (take-append_seam bytes (take (8 - n) more)) ∙ ap (λ (m : List ℕ). take n m) (sym split) in
          passed_to (bytes_eq (take 8 bytes) (take n magic)) (nat_lt n 8) _ ((bytes_decides (take 8 bytes) (take n magic)).1 same) (inl (lt-ltb n 8 short))
      | inr enough ↦
          let same : take 8 bytes ≡ take (length bytes) magic = sym (take-append-le 8 bytes more enough) ∙ begins ∙ sym (take_all (length bytes) magic enough) in
          let body : count_read (drop 8 bytes ++ more) ≡ Ok words = ap count_read (sym (drop-append-le 8 bytes more enough)) ∙ p.2 in
          passed_to (bytes_eq (take 8 bytes) (take (length bytes) magic)) (nat_lt (length bytes) 8) _ ((bytes_decides (take 8 bytes) (take (length bytes) magic)).1 same)
          (inr (le-ltb (length bytes) 8 enough, count_front (drop 8 bytes) more words some body))
    ]
  where
    passed_to : (same short : Bool) (rest : Result Words ReadFault) → same ≡ true → (short ≡ true) ⊎ ((short ≡ false) × (rest ≡ Err Truncated)) → cond same (cond short (Err Truncated) rest) (Err BadMagic) ≡ Err Truncated
    passed_to same short rest is (inl cut) = rw (is, cut) refl
    passed_to same short rest is (inr later) = rw (is, later.0) later.1

pub begun_truncated : (bytes : List ℕ) → BeginImage bytes → image_read bytes ≡ Err Truncated
begun_truncated bytes begin =
    let image = begin.whole in
    begun_read bytes begin.missing image.1 begin.some (ap image_read image.3 ∙ spelled_read image.0 image.1 image.2)

pub others_begin_none : (bytes more : List ℕ) (fault : ReadFault) → image_read bytes ≡ Err fault → fault ≢ Truncated → AreImage (bytes ++ more) → ⊥
others_begin_none bytes [] fault refused other image =
    let read : image_read bytes ≡ Ok image.1 = ap image_read (sym (append-nil bytes) ∙ image.3) ∙ spelled_read image.0 image.1 image.2 in
    absurd (cc (read, refused))
others_begin_none bytes (m ∷ more) fault refused other image =
    let cut = begun_truncated bytes (record { missing = m ∷ more; some = omega arith; whole = image }) in
    other (cc (cut, refused))
