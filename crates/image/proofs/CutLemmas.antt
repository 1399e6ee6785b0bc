-- Bytes that end too early begin an image's.
use Rattle.std.proofs.Common.{◌≡◌, ◌∙◌, ℕ, zero, suc, ◌+◌, ◌-◌, ◌*◌, ◌/◌, ◌%◌, ◌<◌, ◌≤◌, ◌⊎◌, Bool, true, false, cond, List, [], ◌∷◌, ◌++◌, length, take, drop, get_or, replicate, flat_map, Option, Some, None, Result, Err, refl, sym, ap, subst, inl, inr, arith, length-append, length-drop, append_assoc}
use Rattle.std.specs.Prelude.{◌&&◌, ◌||◌, ◌==◌, not, is_some, nat_lt, IsTrue}
use Rattle.std.specs.List.{AllByRecursion}
use Rattle.std.specs.Str.{bytes_eq}
use Rattle.std.specs.Cmp.Lexicographic.{bytes_decides}
use Rattle.std.proofs.lemmas.Bool.{cases_lt, cases_eq, eq-eqb, ne_eqb, le-ltb, lt-ltb, ltb-false, ltb-true}
use Rattle.std.proofs.lemmas.Bool.Decides.{nat_tests}
use Rattle.std.proofs.lemmas.List.{append-nil, drop-append-le, drop_all, take-append-drop, take-append-le, take_all, length-replicate}
use Rattle.byteorder.specs.Endian.{little_bytes, little_number}
use Rattle.image.specs.Image.{Words, may_hold, word_of}
use Rattle.image.specs.ImageBytes.{Segment, count_read, cut_fault, end_fault, head_address, head_count, image_bytes, image_read, is_taken, magic, numbers, read_by, segment_bytes, segment_fault, segments_read, with_words}
use Rattle.image.specs.Spelling.{AreNumbers, BeginImage, CanFollow, with_segments}
use Rattle.image.specs.declared.reading.ReadFault.{ReadFault}
use Rattle.image.specs.declared.reading.ReadFault.TheVariants.{BadMagic, Misaligned, OutOfRange, Overlap, Truncated}
use Rattle.image.proofs.AcceptLemmas.{AreBytes, bytes_after, four_split, head_counted, number_front, numbers_fit, segment_at, segment_split}
use Rattle.image.proofs.RoomLemmas.{HasRoom, fill, free_address, grown, low_holds, one_stands, room_after}
use Rattle.image.proofs.SegmentLemmas.{CanStand, can_stand, length_numbers, no_other_fault}
use Rattle.image.proofs.WrittenLemmas.{no_fault}

-- ## One segment that ends too early

pub record Goes (left : ℕ) (before : Words) (bytes : List ℕ) : Type 0 where
  pub more : List ℕ
  pub some : 0 < length more
  pub segments : List Segment
  pub count : length segments ≡ left
  pub bytes_are : bytes ++ more ≡ flat_map segment_bytes segments
  pub numbers_are : AllByRecursion (λ s. AreNumbers s.words) segments
  pub follow : CanFollow before segments

-- a segment that ends too early, and others of one word after it
goes_with : (left : ℕ) (before : Words) (bytes tail : List ℕ) (s : Segment) → bytes ++ tail ≡ segment_bytes s → 0 < length tail → CanStand before s.address (length s.words) → AreNumbers s.words
    → HasRoom (suc left) before → length before + length s.words + left ≤ 65536 → Goes (suc left) before bytes
goes_with left before bytes tail s is some can all room short =
    let new = with_words before s.address s.words in
    let more = grown before s.address s.words can room.ascends room.allowed in
    let long = more.long in
    let others = fill left new (room_after left before new (length s.words) room more) (omega (arith, long, short)) in
    let after = flat_map segment_bytes others.segments in
    let len = length-append tail after in
    record {
      more = tail ++ after;
      some = omega (arith, len, some);
      segments = s ∷ others.segments;
      count = ap suc others.count;
      bytes_are = sym (append_assoc bytes tail after) ∙ ap (λ (bs : List ℕ). bs ++ after) is;
      numbers_are = (all, others.numbers_are);
      follow = (no_fault before s.address (length s.words) can, others.follow);
    }

-- ## A head that ends within the address

-- with one word at an address whose bytes begin so
cut_at : (left : ℕ) (before : Words) (bytes : List ℕ) (a : ℕ) → length bytes < 4 → take (length bytes) (little_bytes 4 a) ≡ bytes → IsTrue (may_hold a) → word_of before a ≡ None
    → HasRoom (suc left) before → length before + suc left ≤ 65536 → Goes (suc left) before bytes
cut_at left before bytes a cut begins may none room short =
    let s : Segment = record { address = a; words = 0 ∷ [] } in
    let n = length bytes in
    let front : take n (segment_bytes s) ≡ bytes = take-append-le n (little_bytes 4 a) (little_bytes 4 1 ++ little_bytes 4 0) (omega (arith, cut)) ∙ begins in
    let is : bytes ++ drop n (segment_bytes s) ≡ segment_bytes s = ap (λ (bs : List ℕ). bs ++ drop n (segment_bytes s)) (sym front) ∙ take-append-drop n (segment_bytes s) in
    let len = length-drop n (segment_bytes s) in
    goes_with left before bytes (drop n (segment_bytes s)) s is (omega (arith, len, cut)) (one_stands before a room.allowed (omega (arith, short)) may none) (omega arith, tt) room (omega (arith, short))

-- fewer than three bytes: some address is free
cut_low : (left : ℕ) (before : Words) (bytes : List ℕ) → length bytes < 4 → (low : ℕ) → low % 4 ≡ 0 → low < 65536 → ((m : ℕ) → m < 256 → take (length bytes) (little_bytes 4 (low + 65536 * m)) ≡ bytes)
    → HasRoom (suc left) before → length before + suc left ≤ 65536 → Goes (suc left) before bytes
cut_low left before bytes cut low low4 small begins room short =
    let runs = room.runs in
    let free = free_address before low room.ascends small (omega (arith, runs)) (omega (arith, short)) in
    let m = free.0 in
    let bound = free.2 in
    cut_at left before bytes (low + 65536 * m) cut (begins m (omega (arith, bound))) (low_holds (low + 65536 * m) (omega (arith, low4)) (omega (arith, bound))) free.1 room short

-- of four addresses one is not taken
some_free : (p q r s : Bool) → (p && (q && (r && s))) ≡ false → (p ≡ false) ⊎ ((q ≡ false) ⊎ ((r ≡ false) ⊎ (s ≡ false)))
some_free false q r s e = inl refl
some_free true false r s e = inr (inl refl)
some_free true true false s e = inr (inr (inl refl))
some_free true true true s e = inr (inr (inr e))

not_taken : (words : Words) (a : ℕ) → is_taken words a ≡ false → (IsTrue (may_hold a)) × (word_of words a ≡ None)
not_taken words a e = by (may_hold a) (word_of words a) e
  where
    by : (may : Bool) (o : Option ℕ) → (not may || is_some o) ≡ false → IsTrue may × (o ≡ None)
    by true None e = (refl, refl)
    by true (Some v) e = absurd (cc)
    by false o e = absurd (cc)

cut_three : (left : ℕ) (before : Words) (x y z : ℕ) → x < 256 → y < 256 → z < 256 → (h : ℕ) → h < 256 → is_taken before (little_number 4 (x ∷ y ∷ z ∷ []) + 0x1000000 * h) ≡ false
    → HasRoom (suc left) before → length before + suc left ≤ 65536 → Goes (suc left) before (x ∷ y ∷ z ∷ [])
cut_three left before x y z x_fits y_fits z_fits h h_fits free room short =
    let a = little_number 4 (x ∷ y ∷ z ∷ []) + 0x1000000 * h in
    let open_at = not_taken before a free in
    let x_is : a % 256 ≡ x = omega (arith, x_fits) in
    let y_is : a / 256 % 256 ≡ y = omega (arith, x_fits, y_fits) in
    let z_is : a / 65536 % 256 ≡ z = omega (arith, x_fits, y_fits, z_fits) in
    cut_at left before (x ∷ y ∷ z ∷ []) a (omega arith) (rw (x_is, y_is, z_is) refl) open_at.0 open_at.1 room short

cut_parts : (odd long taken : Bool) → cond odd Misaligned (cond long OutOfRange (cond taken Overlap Truncated)) ≡ Truncated → (odd ≡ false) × (long ≡ false) × (taken ≡ false)
cut_parts true long taken e = absurd (cc)
cut_parts false true taken e = absurd (cc)
cut_parts false false true e = absurd (cc)
cut_parts false false false e = (refl, refl, refl)

cut_goes : (left : ℕ) (before : Words) (bytes : List ℕ) → AreBytes bytes → length bytes < 4 → cut_fault before left bytes ≡ Truncated → HasRoom (suc left) before → Goes (suc left) before bytes
cut_goes left before [] all cut e room =
    let p = cut_parts false (nat_lt 65536 (length before + suc left)) false e in
    cut_low left before [] cut 0 (omega arith) (omega arith) (λ m fits. refl) room (ltb-false 65536 (length before + suc left) p.1)
cut_goes left before (x ∷ []) all cut e room =
    let p = cut_parts (not (little_number 4 (x ∷ []) % 4 == 0)) (nat_lt 65536 (length before + suc left)) false e in
    let odd = p.0 in
    let fits : x < 256 = all 0 in
    let low4 : x % 4 ≡ 0 = grind (arith, nat_tests, odd) in
    cut_low left before (x ∷ []) cut x low4 (omega (arith, fits)) (λ m few. let is : (x + 65536 * m) % 256 ≡ x = omega (arith, fits) in rw is refl) room (ltb-false 65536 (length before + suc left) p.1)
cut_goes left before (x ∷ y ∷ []) all cut e room =
    let p = cut_parts (not (little_number 4 (x ∷ y ∷ []) % 4 == 0)) (nat_lt 65536 (length before + suc left)) false e in
    let odd = p.0 in
    let x_fits : x < 256 = all 0 in
    let y_fits : y < 256 = all 1 in
    let low4 : (x + 256 * y) % 4 ≡ 0 = grind (arith, nat_tests, odd) in
    cut_low left before (x ∷ y ∷ []) cut (x + 256 * y) low4 (omega (arith, x_fits, y_fits))
    (λ m few.
    let x_is : (x + 256 * y + 65536 * m) % 256 ≡ x = omega (arith, x_fits) in
    let y_is : (x + 256 * y + 65536 * m) / 256 % 256 ≡ y = omega (arith, x_fits, y_fits) in
    rw (x_is, y_is) refl) room (ltb-false 65536 (length before + suc left) p.1)
cut_goes left before (x ∷ y ∷ z ∷ []) all cut e room =
    let low = little_number 4 (x ∷ y ∷ z ∷ []) in
    let p = cut_parts _ _ _ e in
    let short : length before + suc left ≤ 65536 = ltb-false 65536 (length before + suc left) p.1 in
    let at : (h : ℕ) → h < 256 → is_taken before (low + 0x1000000 * h) ≡ false → Goes (suc left) before (x ∷ y ∷ z ∷ []) =
    λ h fits free. cut_three left before x y z (all 0) (all 1) (all 2) h fits free room short in
    elim (some_free (is_taken before low) (is_taken before (low + 0x1000000)) (is_taken before (low + 0x2000000)) (is_taken before (low + 0x3000000)) p.2) [
      | inl free ↦ at 0 (omega arith) (moved low (low + 0x1000000 * 0) (omega arith) free)
      | inr others ↦ elim others [
        | inl free ↦ at 1 (omega arith) (moved (low + 0x1000000) (low + 0x1000000 * 1) (omega arith) free)
        | inr more ↦ elim more [
          | inl free ↦ at 2 (omega arith) (moved (low + 0x2000000) (low + 0x1000000 * 2) (omega arith) free)
          | inr free ↦ at 3 (omega arith) (moved (low + 0x3000000) (low + 0x1000000 * 3) (omega arith) free)
        ]
      ]
    ]
  where
    moved : (a b : ℕ) → a ≡ b → is_taken before a ≡ false → is_taken before b ≡ false
    moved a b same free = subst (λ (c : ℕ). is_taken before c ≡ false) same free
cut_goes left before (x ∷ y ∷ z ∷ u ∷ rest) all cut e room = absurd (omega (arith, cut))

-- ## A segment that ends after its address

zeros_after : (xs : List ℕ) (n k : ℕ) → get_or (xs ++ replicate n 0) k 0 ≡ get_or xs k 0
zeros_after [] zero k = refl
zeros_after [] (suc n) zero = refl
zeros_after [] (suc n) (suc k) = zeros_after [] n k
zeros_after (x ∷ xs) n zero = refl
zeros_after (x ∷ xs) n (suc k) = zeros_after xs n k

number_zeros : (xs : List ℕ) (n : ℕ) → little_number 4 (xs ++ replicate n 0) ≡ little_number 4 xs
number_zeros xs n =
    let a = zeros_after xs n 0 in
    let b = zeros_after xs n 1 in
    let c = zeros_after xs n 2 in
    let d = zeros_after xs n 3 in
    omega (arith, a, b, c, d)

bytes_append : (xs ys : List ℕ) → AreBytes xs → AreBytes ys → AreBytes (xs ++ ys)
bytes_append [] ys all more k = more k
bytes_append (x ∷ xs) ys all more zero = all 0
bytes_append (x ∷ xs) ys all more (suc k) = bytes_append xs ys (λ i. all (suc i)) more k

-- what follows the bytes of a count that are there, before 0s
record Rest (bytes : List ℕ) : Type 0 where
  next : List ℕ
  short : length next ≤ 1
  are_bytes : AreBytes next
  counts : little_number 4 (drop 4 bytes ++ next) ≡ head_count bytes

rest_of : (bytes : List ℕ) → Rest bytes
rest_of bytes =
    elim (cases_eq (little_number 4 (drop 4 bytes)) 0) [
      | inl none ↦ record { next = 1 ∷ []; short = omega arith; are_bytes = one; counts = rw (eq-eqb _ _ none) refl }
      | inr some ↦ record { next = []; short = omega arith; are_bytes = λ k. omega arith; counts = ap (little_number 4) (append-nil (drop 4 bytes)) ∙ rw (ne_eqb _ _ some) refl }
    ]
  where
    one : AreBytes (1 ∷ [])
    one zero = omega arith
    one (suc k) = omega arith

short_goes : (left : ℕ) (before : Words) (bytes : List ℕ) → AreBytes bytes → 4 ≤ length bytes → segment_fault before (head_address bytes) (head_count bytes) ≡ None
    → length bytes < 8 + 4 * head_count bytes → HasRoom (suc left) before → length before + head_count bytes + left ≤ 65536 → Goes (suc left) before bytes
short_goes left before bytes all some none ends room short =
    let count = head_count bytes in
    let rest = rest_of bytes in
    let next = rest.next in
    let few = rest.short in
    let zeros = replicate {A = ℕ} (8 + 4 * count - length bytes - length next) 0 in
    let pad = next ++ zeros in
    let padded = bytes ++ pad in
    let zeros_len = length-replicate {A = ℕ} (8 + 4 * count - length bytes - length next) 0 in
    let pad_len = length-append next zeros in
    let len = length-append bytes pad in
    let all_padded : AreBytes padded = bytes_append bytes pad all (bytes_append next zeros rest.are_bytes (λ k. subst (λ (b : ℕ). b < 256) (sym (zeros_after [] (8 + 4 * count - length bytes - length next) k)) (omega arith))) in
    let address : head_address padded ≡ head_address bytes = number_front bytes pad some in
    let counted : little_number 4 (drop 4 padded) ≡ count =
    ap (little_number 4) (drop-append-le 4 bytes pad some ∙ sym (append_assoc (drop 4 bytes) next zeros)) ∙ number_zeros (drop 4 bytes ++ next) (8 + 4 * count - length bytes - length next) ∙ rest.counts in
    let s = segment_at count padded in
    let after : drop (8 + 4 * count) padded ≡ [] = drop_all (8 + 4 * count) padded (omega (arith, len, pad_len, zeros_len, few, ends)) in
    let split : padded ≡ segment_bytes s =
    segment_split count padded all_padded (sym counted) (omega (arith, len, pad_len, zeros_len, few, ends)) ∙ ap (λ (bs : List ℕ). segment_bytes s ++ bs) after ∙ append-nil (segment_bytes s) in
    let words = length_numbers count (drop 8 padded) in
    let can : CanStand before s.address (length s.words) = can_stand before s.address (length s.words) (ap (λ (a : ℕ). segment_fault before a (length s.words)) address ∙ ap (λ (n : ℕ). segment_fault before (head_address bytes) n) words ∙ none) in
    goes_with left before bytes pad s split (omega (arith, pad_len, zeros_len, few, ends)) can (numbers_fit count (drop 8 padded) (bytes_after 8 padded all_padded)) room (omega (arith, words, short))

-- ## All segments

pub same_fault : {A : Type 0} (f g : ReadFault) → (r s : Result A ReadFault) → r ≡ Err f → s ≡ Err g → r ≡ s → f ≡ g
same_fault f g r s p q e = cc

-- why segments are Truncated: the first ends too early, or a later one does
cut_or_later : (fault : Option ReadFault) (short : Bool) (end : ReadFault) (rest : Result Words ReadFault) → read_by fault (cond short (Err end) rest) ≡ Err Truncated
    → (fault ≡ Some Truncated) ⊎ ((fault ≡ None) × (((short ≡ true) × (end ≡ Truncated)) ⊎ ((short ≡ false) × (rest ≡ Err Truncated))))
cut_or_later (Some f) short end rest e = inl (cc)
cut_or_later None true end rest e = inr (refl, inl (refl, cc))
cut_or_later None false end rest e = inr (refl, inr (refl, e))

-- no fault of a head that is whole
never_cut : (words : Words) (a n : ℕ) → segment_fault words a n ≡ Some Truncated → ⊥
never_cut = no_other_fault Truncated (λ e. cc) (λ e. cc) (λ e. cc)

ends_short : (named left : ℕ) → end_fault named left ≡ Truncated → named + left ≤ 65536
ends_short named left e = by (nat_lt 65536 (named + left)) (λ no. ltb-false 65536 (named + left) no) e
  where
    by : (long : Bool) → (long ≡ false → named + left ≤ 65536) → cond long OutOfRange Truncated ≡ Truncated → named + left ≤ 65536
    by true fits e = absurd (cc)
    by false fits e = fits refl

goes_later : (left : ℕ) (before : Words) (bytes : List ℕ) → AreBytes bytes → 8 + 4 * head_count bytes ≤ length bytes → segment_fault before (head_address bytes) (head_count bytes) ≡ None
    → Goes left (with_words before (head_address bytes) (numbers (head_count bytes) (drop 8 bytes))) (drop (8 + 4 * head_count bytes) bytes) → Goes (suc left) before bytes
goes_later left before bytes all long none later =
    let count = head_count bytes in
    let s = segment_at count bytes in
    let split = segment_split count bytes all (head_counted bytes (omega (arith, long))) long in
    let after = drop (8 + 4 * count) bytes in
    record {
      more = later.more;
      some = later.some;
      segments = s ∷ later.segments;
      count = ap suc later.count;
      bytes_are = ap (λ (bs : List ℕ). bs ++ later.more) split ∙ append_assoc (segment_bytes s) after later.more ∙ ap (λ (bs : List ℕ). segment_bytes s ++ bs) later.bytes_are;
      numbers_are = (numbers_fit count (drop 8 bytes) (bytes_after 8 bytes all), later.numbers_are);
      follow = (ap (λ (n : ℕ). segment_fault before (head_address bytes) n) (length_numbers count (drop 8 bytes)) ∙ none, later.follow);
    }

goes_on : (left : ℕ) (before : Words) (bytes : List ℕ) → AreBytes bytes → segments_read left before bytes ≡ Err Truncated → HasRoom left before → Goes left before bytes
goes_on zero before [] all e room = absurd (cc)
goes_on zero before (b ∷ rest) all e room = absurd (cc)
goes_on (suc left) before bytes all e room = elim (cases_lt (length bytes) 4) [
  | inl cut ↦ cut_goes left before bytes all cut (same_fault {A = Words} _ _ _ _ refl refl (rw (lt-ltb (length bytes) 4 cut) at e)) room
  | inr whole ↦
      let a = head_address bytes in
      let count = head_count bytes in
      let new = with_words before a (numbers count (drop 8 bytes)) in
      elim (cut_or_later (segment_fault before a count) (nat_lt (length bytes) (8 + 4 * count)) (end_fault (length before + count) left) (segments_read left new (drop (8 + 4 * count) bytes)) (rw (le-ltb (length bytes) 4 whole) at e)) [
        | inl never ↦ absurd (never_cut before a count never)
        | inr goes ↦ elim goes.1 [
          | inl here ↦ short_goes left before bytes all whole goes.0 (ltb-true (length bytes) (8 + 4 * count) here.0) room (ends_short (length before + count) left here.1)
          | inr later ↦
              let long : 8 + 4 * count ≤ length bytes = ltb-false (length bytes) (8 + 4 * count) later.0 in
              let words = length_numbers count (drop 8 bytes) in
              let can = can_stand before a (length (numbers count (drop 8 bytes))) (ap (λ (n : ℕ). segment_fault before a n) words ∙ goes.0) in
              let more = grown before a (numbers count (drop 8 bytes)) can room.ascends room.allowed in
              goes_later left before bytes all long goes.0 (goes_on left new (drop (8 + 4 * count) bytes) (bytes_after (8 + 4 * count) bytes all) later.1 (room_after left before new _ room more))
        ]
      ]
]

-- ## The magic and the number of segments

empty_room : (left : ℕ) → left ≤ 16 → HasRoom left []
empty_room left few = record { ascends = tt; allowed = tt; runs = omega (arith, few) }

-- bytes that are, with more after them, those of so many segments
begins_with : (bytes more : List ℕ) (segments : List Segment) → 0 < length more → bytes ++ more ≡ image_bytes segments → length segments ≤ 16 → AllByRecursion (λ s. AreNumbers s.words) segments → CanFollow [] segments → BeginImage bytes
begins_with bytes more segments some is few all follow = record {
  missing = more;
  some = some;
  whole = (segments, with_segments [] segments, record { few = few; numbers = all; follow = follow; words_are = refl }, is);
}

-- within the number of segments
count_goes : (body : List ℕ) → AreBytes body → length body < 4 → little_number 4 body ≤ 16 → BeginImage (magic ++ body)
count_goes body all cut few =
    let n = little_number 4 body in
    let zeros = replicate {A = ℕ} (4 - length body) 0 in
    let four = body ++ zeros in
    let zeros_len = length-replicate {A = ℕ} (4 - length body) 0 in
    let len = length-append body zeros in
    let all_four : AreBytes four = bytes_append body zeros all (λ k. subst (λ (b : ℕ). b < 256) (sym (zeros_after [] (4 - length body) k)) (omega arith)) in
    let filled = fill n [] (empty_room n few) (omega (arith, few)) in
    let count = filled.count in
    let after = flat_map segment_bytes filled.segments in
    let is : four ≡ little_bytes 4 (length filled.segments) =
    four_split four all_four (omega (arith, len, zeros_len))
    ∙ ap (λ (m : ℕ). little_bytes 4 m ++ drop 4 four) (number_zeros body (4 - length body) ∙ sym count)
    ∙ ap (λ (bs : List ℕ). little_bytes 4 (length filled.segments) ++ bs) (drop_all 4 four (omega (arith, len, zeros_len)))
    ∙ append-nil (little_bytes 4 (length filled.segments)) in
    let more_len = length-append zeros after in
    begins_with (magic ++ body) (zeros ++ after) filled.segments (omega (arith, more_len, zeros_len, cut))
    (append_assoc magic body (zeros ++ after) ∙ ap (λ (bs : List ℕ). magic ++ bs) (sym (append_assoc body zeros after) ∙ ap (λ (bs : List ℕ). bs ++ after) is))
    (omega (arith, count, few)) filled.numbers_are filled.follow

count_or_later : (many short : Bool) (rest : Result Words ReadFault) → cond many (Err OutOfRange) (cond short (Err Truncated) rest) ≡ Err Truncated
    → (many ≡ false) × ((short ≡ true) ⊎ ((short ≡ false) × (rest ≡ Err Truncated)))
count_or_later true short rest e = absurd (cc)
count_or_later false true rest e = (refl, inl refl)
count_or_later false false rest e = (refl, inr (refl, e))

body_begins : (body : List ℕ) → AreBytes body → count_read body ≡ Err Truncated → BeginImage (magic ++ body)
body_begins body all e =
    let n = little_number 4 body in
    let p = count_or_later (nat_lt 16 n) (nat_lt (length body) 4) (segments_read n [] (drop 4 body)) e in
    let few : n ≤ 16 = ltb-false 16 n p.0 in
    elim p.1 [
      | inl short ↦ count_goes body all (ltb-true (length body) 4 short) few
      | inr later ↦
          let goes = goes_on n [] (drop 4 body) (bytes_after 4 body all) later.1 (empty_room n few) in
          let count = goes.count in
          let four = little_bytes 4 n in
          begins_with (magic ++ body) goes.more goes.segments goes.some
          (append_assoc magic body goes.more
          ∙ ap (λ (bs : List ℕ). magic ++ bs) (
          ap (λ (bs : List ℕ). bs ++ goes.more) (four_split body all (ltb-false (length body) 4 later.0))
          ∙ append_assoc four (drop 4 body) goes.more
          ∙ ap (λ (bs : List ℕ). four ++ bs) goes.bytes_are
          ∙ ap (λ (m : ℕ). little_bytes 4 m ++ flat_map segment_bytes goes.segments) (sym count)))
          (omega (arith, count, few)) goes.numbers_are goes.follow
    ]

magic_or_later : (same short : Bool) (rest : Result Words ReadFault) → cond same (cond short (Err Truncated) rest) (Err BadMagic) ≡ Err Truncated → (same ≡ true) × ((short ≡ true) ⊎ ((short ≡ false) × (rest ≡ Err Truncated)))
magic_or_later false short rest e = absurd (cc)
magic_or_later true true rest e = (refl, inl refl)
magic_or_later true false rest e = (refl, inr (refl, e))

-- within the magic: no segment follows
magic_goes : (bytes : List ℕ) → length bytes < 8 → take 8 bytes ≡ take (length bytes) magic → BeginImage bytes
magic_goes bytes short same =
    let front : bytes ≡ take (length bytes) magic = sym (take_all 8 bytes (omega (arith, short))) ∙ same in
    let rest = drop (length bytes) magic in
    let len = length-drop (length bytes) magic in
    let more_len = length-append rest (little_bytes 4 0) in
    begins_with bytes (rest ++ little_bytes 4 0) [] (omega (arith, more_len, len, short))
    (ap (λ (bs : List ℕ). bs ++ (rest ++ little_bytes 4 0)) front ∙ sym (append_assoc (take (length bytes) magic) rest (little_bytes 4 0)) ∙ ap (λ (bs : List ℕ). bs ++ little_bytes 4 0) (take-append-drop (length bytes) magic))
    (omega arith) tt tt

pub truncated_begins : (bytes : List ℕ) → AreBytes bytes → image_read bytes ≡ Err Truncated → BeginImage bytes
truncated_begins bytes all e =
    let p = magic_or_later (bytes_eq (take 8 bytes) (take (length bytes) magic)) (nat_lt (length bytes) 8) (count_read (drop 8 bytes)) e in
    let same : take 8 bytes ≡ take (length bytes) magic = (bytes_decides (take 8 bytes) (take (length bytes) magic)).0 p.0 in
    elim p.1 [
      | inl short ↦ magic_goes bytes (ltb-true (length bytes) 8 short) same
      | inr later ↦
          let long : 8 ≤ length bytes = ltb-false (length bytes) 8 later.0 in
          let split : magic ++ drop 8 bytes ≡ bytes = ap (λ (m : List ℕ). m ++ drop 8 bytes) (sym (same ∙ take_all (length bytes) magic long)) ∙ take-append-drop 8 bytes in
          subst BeginImage split (body_begins (drop 8 bytes) (bytes_after 8 bytes all) later.1)
    ]
