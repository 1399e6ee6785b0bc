-- Bytes that are read as an image are those of segments that spell it.
use Rattle.std.proofs.Common.{◌≡◌, ◌∙◌, ℕ, zero, suc, ◌+◌, ◌*◌, ◌/◌, ◌%◌, ◌^◌, ◌<◌, ◌≤◌, Bool, true, false, cond, List, [], ◌∷◌, ◌++◌, length, take, drop, get_or, length-drop, flat_map, Option, Some, None, Result, Ok, Err, refl, sym, ap, subst, inl, inr, arith, append_assoc}
use Rattle.std.specs.Prelude.{◌==◌, nat_lt}
use Rattle.std.specs.List.{All, AllByRecursion}
use Rattle.std.specs.Cmp.Lexicographic.{bytes_decides}
use Rattle.std.specs.Str.{bytes_eq}
use Rattle.std.proofs.lemmas.Bool.{cases_lt, ltb-false}
use Rattle.std.proofs.lemmas.List.{drop-drop, get_or-drop, take-append-drop, take_all}
use Rattle.std.proofs.lemmas.List.Elements.{All-get_or}
use Rattle.byteorder.specs.Endian.{little_bytes, little_number}
use Rattle.image.specs.Image.{Words}
use Rattle.image.specs.ImageBytes.{cut_fault, Segment, head_address, head_count, image_bytes, image_read, magic, numbers, read_by, segment_bytes, segment_fault, segments_read, with_words}
use Rattle.image.specs.Spelling.{AreNumbers, CanFollow, Spell, with_segments}
use Rattle.image.specs.declared.reading.ReadFault.{ReadFault}
use Rattle.image.specs.declared.reading.ReadFault.TheVariants.{BadMagic, OutOfRange, Truncated}
use Rattle.image.proofs.SegmentLemmas.{length_numbers}

-- ## Numbers

abbrev pub AreBytes : List ℕ → Type 0
AreBytes bytes = (k : ℕ) → get_or bytes k 0 < 256

-- what is past the end counts as 0
past : (bytes : List ℕ) (k : ℕ) → length bytes ≤ k → get_or bytes k 0 ≡ 0
past [] k le = refl
past (b ∷ bytes) zero le = absurd (omega (arith, le))
past (b ∷ bytes) (suc k) le = past bytes k (omega (arith, le))

pub are_bytes : (bytes : List ℕ) → All (λ b. b < 256) bytes → AreBytes bytes
are_bytes bytes all k = elim (cases_lt k (length bytes)) [ inl lt ↦ All-get_or (λ b. b < 256) bytes k 0 lt all | inr le ↦ let none = past bytes k le in omega (arith, none) ]

pub bytes_after : (n : ℕ) (bytes : List ℕ) → AreBytes bytes → AreBytes (drop n bytes)
bytes_after n bytes all = λ k. subst (λ (b : ℕ). b < 256) (sym (get_or-drop n bytes k 0)) (all (n + k))

pub four_split : (bytes : List ℕ) → AreBytes bytes → 4 ≤ length bytes → bytes ≡ little_bytes 4 (little_number 4 bytes) ++ drop 4 bytes
four_split [] all some = absurd (omega (arith, some))
four_split (a ∷ []) all some = absurd (omega (arith, some))
four_split (a ∷ b ∷ []) all some = absurd (omega (arith, some))
four_split (a ∷ b ∷ c ∷ []) all some = absurd (omega (arith, some))
four_split (a ∷ b ∷ c ∷ d ∷ rest) all some =
    let n = little_number 4 (a ∷ b ∷ c ∷ d ∷ rest) in
    let a_fits : a < 256 = all 0 in
    let b_fits : b < 256 = all 1 in
    let c_fits : c < 256 = all 2 in
    let d_fits : d < 256 = all 3 in
    let a_is : a ≡ n % 256 = omega (arith, a_fits) in
    let b_is : b ≡ n / 256 % 256 = omega (arith, a_fits, b_fits) in
    let c_is : c ≡ n / 65536 % 256 = omega (arith, a_fits, b_fits, c_fits) in
    let d_is : d ≡ n / 16777216 % 256 = omega (arith, a_fits, b_fits, c_fits, d_fits) in
    ap (λ (x : ℕ). x ∷ b ∷ c ∷ d ∷ rest) a_is ∙ ap (λ (x : ℕ). n % 256 ∷ x ∷ c ∷ d ∷ rest) b_is ∙ ap (λ (x : ℕ). n % 256 ∷ n / 256 % 256 ∷ x ∷ d ∷ rest) c_is
    ∙ ap (λ (x : ℕ). n % 256 ∷ n / 256 % 256 ∷ n / 65536 % 256 ∷ x ∷ rest) d_is

numbers_split : (count : ℕ) (bytes : List ℕ) → AreBytes bytes → 4 * count ≤ length bytes → bytes ≡ flat_map (little_bytes 4) (numbers count bytes) ++ drop (4 * count) bytes
numbers_split zero bytes all some = refl
numbers_split (suc count) bytes all some =
    let four = little_bytes 4 (little_number 4 bytes) in
    let words = flat_map (little_bytes 4) (numbers count (drop 4 bytes)) in
    let len = length-drop 4 bytes in
    four_split bytes all (omega (arith, some))
    ∙ ap (λ (bs : List ℕ). four ++ bs) (numbers_split count (drop 4 bytes) (bytes_after 4 bytes all) (omega (arith, some, len)))
    ∙ ap (λ (bs : List ℕ). four ++ (words ++ bs)) (drop-drop (4 * count) 4 bytes ∙ ap (λ (n : ℕ). drop n bytes) (omega arith))

pub number_fits : (bytes : List ℕ) → AreBytes bytes → little_number 4 bytes < 2 ^ 32
number_fits bytes all =
    let a : get_or bytes 0 0 < 256 = all 0 in
    let b : get_or bytes 1 0 < 256 = all 1 in
    let c : get_or bytes 2 0 < 256 = all 2 in
    let d : get_or bytes 3 0 < 256 = all 3 in
    omega (arith, a, b, c, d)

pub numbers_fit : (count : ℕ) (bytes : List ℕ) → AreBytes bytes → AreNumbers (numbers count bytes)
numbers_fit zero bytes all = tt
numbers_fit (suc count) bytes all = (number_fits bytes all, numbers_fit count (drop 4 bytes) (bytes_after 4 bytes all))

-- after four bytes nothing counts
pub number_front : (xs ys : List ℕ) → 4 ≤ length xs → little_number 4 (xs ++ ys) ≡ little_number 4 xs
number_front [] ys some = absurd (omega (arith, some))
number_front (a ∷ []) ys some = absurd (omega (arith, some))
number_front (a ∷ b ∷ []) ys some = absurd (omega (arith, some))
number_front (a ∷ b ∷ c ∷ []) ys some = absurd (omega (arith, some))
number_front (a ∷ b ∷ c ∷ d ∷ rest) ys some = refl

-- ## One segment

abbrev pub segment_at : ℕ → List ℕ → Segment
segment_at count bytes = record { address = head_address bytes; words = numbers count (drop 8 bytes) }

-- the number of words of a head that is whole
pub head_counted : (bytes : List ℕ) → 8 ≤ length bytes → head_count bytes ≡ little_number 4 (drop 4 bytes)
head_counted bytes long =
    let len = length-drop 4 bytes in
    either (little_number 4 (drop 4 bytes) == 0) (number_front (drop 4 bytes) (1 ∷ []) (omega (arith, long, len)))
  where
    either : {n m : ℕ} (b : Bool) → m ≡ n → cond b m n ≡ n
    either true same = same
    either false same = refl

pub segment_split : (count : ℕ) (bytes : List ℕ) → AreBytes bytes → count ≡ little_number 4 (drop 4 bytes) → 8 + 4 * count ≤ length bytes
    → bytes ≡ segment_bytes (segment_at count bytes) ++ drop (8 + 4 * count) bytes
segment_split count bytes all is long =
    let address = little_bytes 4 (little_number 4 bytes) in
    let four = little_bytes 4 (length (numbers count (drop 8 bytes))) in
    let words = flat_map (little_bytes 4) (numbers count (drop 8 bytes)) in
    let rest = drop (8 + 4 * count) bytes in
    let len4 = length-drop 4 bytes in
    let len8 = length-drop 8 bytes in
    let number : little_bytes 4 (little_number 4 (drop 4 bytes)) ≡ four = ap (little_bytes 4) (sym is ∙ sym (length_numbers count (drop 8 bytes))) in
    four_split bytes all (omega (arith, long))
    ∙ ap (λ (bs : List ℕ). address ++ bs) (four_split (drop 4 bytes) (bytes_after 4 bytes all) (omega (arith, long, len4)))
    ∙ ap (λ (bs : List ℕ). address ++ (bs ++ drop 4 (drop 4 bytes))) number
    ∙ ap (λ (bs : List ℕ). address ++ (four ++ bs)) (drop-drop 4 4 bytes ∙ numbers_split count (drop 8 bytes) (bytes_after 8 bytes all) (omega (arith, long, len8)))
    ∙ ap (λ (bs : List ℕ). address ++ (four ++ (words ++ bs))) (drop-drop (4 * count) 8 bytes ∙ ap (λ (n : ℕ). drop n bytes) (omega arith))
    ∙ ap (λ (bs : List ℕ). address ++ bs) (sym (append_assoc four words rest))
    ∙ sym (append_assoc address (four ++ words) rest)

-- ## All segments

pub whole_part : (cut : Bool) (fault : ReadFault) (rest : Result Words ReadFault) (words : Words) → cond cut (Err fault) rest ≡ Ok words → rest ≡ Ok words
whole_part true fault rest words e = absurd (cc)
whole_part false fault rest words e = e

pub ok_parts : (fault : Option ReadFault) (short : Bool) (end : ReadFault) (rest : Result Words ReadFault) (words : Words) → read_by fault (cond short (Err end) rest) ≡ Ok words
    → (fault ≡ None) × (short ≡ false) × (rest ≡ Ok words)
ok_parts (Some f) short end rest words e = absurd (cc)
ok_parts None true end rest words e = absurd (cc)
ok_parts None false end rest words e = (refl, refl, e)

record IsRead (left : ℕ) (before words : Words) (bytes : List ℕ) : Type 0 where
  segments : List Segment
  count : length segments ≡ left
  bytes_are : bytes ≡ flat_map segment_bytes segments
  numbers_are : AllByRecursion (λ s. AreNumbers s.words) segments
  follow : CanFollow before segments
  words_are : words ≡ with_segments before segments

one_more : (left : ℕ) (before words : Words) (bytes : List ℕ) → AreBytes bytes → (segment_fault before (head_address bytes) (head_count bytes) ≡ None) → 8 + 4 * head_count bytes ≤ length bytes
    → IsRead left (with_words before (head_address bytes) (numbers (head_count bytes) (drop 8 bytes))) words (drop (8 + 4 * head_count bytes) bytes) → IsRead (suc left) before words bytes
one_more left before words bytes all none long others =
    let count = head_count bytes in
    let s = segment_at count bytes in
    let is : count ≡ little_number 4 (drop 4 bytes) = head_counted bytes (omega (arith, long)) in
    record {
      segments = s ∷ others.segments;
      count = ap suc others.count;
      bytes_are = segment_split count bytes all is long ∙ ap (λ (bs : List ℕ). segment_bytes s ++ bs) others.bytes_are;
      numbers_are = (numbers_fit count (drop 8 bytes) (bytes_after 8 bytes all), others.numbers_are);
      follow = (ap (λ (n : ℕ). segment_fault before (head_address bytes) n) (length_numbers count (drop 8 bytes)) ∙ none, others.follow);
      words_are = others.words_are;
    }

all_read : (left : ℕ) (before words : Words) (bytes : List ℕ) → AreBytes bytes → segments_read left before bytes ≡ Ok words → IsRead left before words bytes
all_read zero before words [] all e = record { segments = []; count = refl; bytes_are = refl; numbers_are = tt; follow = tt; words_are = cc }
all_read zero before words (b ∷ rest) all e = absurd (cc)
all_read (suc left) before words bytes all e =
    let p = ok_parts (segment_fault before (head_address bytes) (head_count bytes)) (nat_lt (length bytes) (8 + 4 * head_count bytes)) _ _ words (whole_part (nat_lt (length bytes) 4) (cut_fault before left bytes) _ words e) in
    one_more left before words bytes all p.0 (ltb-false (length bytes) (8 + 4 * head_count bytes) p.1)
    (all_read left _ words (drop (8 + 4 * head_count bytes) bytes) (bytes_after (8 + 4 * head_count bytes) bytes all) p.2)

-- ## The magic and the number of segments

pub magic_parts : (same short : Bool) (rest : Result Words ReadFault) (words : Words) → cond same (cond short (Err Truncated) rest) (Err BadMagic) ≡ Ok words
    → (same ≡ true) × (short ≡ false) × (rest ≡ Ok words)
magic_parts false short rest words e = absurd (cc)
magic_parts true true rest words e = absurd (cc)
magic_parts true false rest words e = (refl, refl, e)

pub count_parts : (many short : Bool) (rest : Result Words ReadFault) (words : Words) → cond many (Err OutOfRange) (cond short (Err Truncated) rest) ≡ Ok words
    → (many ≡ false) × (short ≡ false) × (rest ≡ Ok words)
count_parts true short rest words e = absurd (cc)
count_parts false true rest words e = absurd (cc)
count_parts false false rest words e = (refl, refl, e)

pub accepted : (bytes : List ℕ) (words : Words) → AreBytes bytes → image_read bytes ≡ Ok words → (segments : List Segment) × (bytes ≡ image_bytes segments) × Spell segments words
accepted bytes words all e =
    let p = magic_parts (bytes_eq (take 8 bytes) (take (length bytes) magic)) (nat_lt (length bytes) 8) _ words e in
    let long : 8 ≤ length bytes = ltb-false (length bytes) 8 p.1 in
    let begins : take 8 bytes ≡ magic = (bytes_decides (take 8 bytes) (take (length bytes) magic)).0 p.0 ∙ take_all (length bytes) magic long in
    let body = drop 8 bytes in
    let q = count_parts (nat_lt 16 (little_number 4 body)) (nat_lt (length body) 4) _ words p.2 in
    let few : little_number 4 body ≤ 16 = ltb-false 16 (little_number 4 body) q.0 in
    let all_body = bytes_after 8 bytes all in
    let segments = all_read (little_number 4 body) [] words (drop 4 body) (bytes_after 4 body all_body) q.2 in
    let count = segments.count in (
      segments.segments,
      sym (take-append-drop 8 bytes)
          ∙ ap (λ (m : List ℕ). m ++ body) begins
          ∙ ap (λ (bs : List ℕ). magic ++ bs) (four_split body all_body (ltb-false (length body) 4 q.1) ∙ ap (λ (n : ℕ). little_bytes 4 n ++ drop 4 body) (sym count) ∙ ap (λ (bs : List ℕ). little_bytes 4 (length segments.segments) ++ bs) segments.bytes_are),
      record { few = omega (arith, count, few); numbers = segments.numbers_are; follow = segments.follow; words_are = segments.words_are },
    )
