-- Bytes that go on after an image's.
use Rattle.std.proofs.Common.{◌≡◌, ◌∙◌, ℕ, zero, suc, ◌+◌, ◌*◌, ◌%◌, ◌<◌, ◌≤◌, Bool, true, false, cond, List, [], ◌∷◌, ◌++◌, length, take, drop, flat_map, Option, Some, None, Result, Err, refl, sym, ap, subst, inl, inr, arith, append_assoc}
use Rattle.std.specs.Prelude.{◌&&◌, ◌==◌, not, nat_lt}
use Rattle.std.specs.List.{AllByRecursion}
use Rattle.std.specs.Str.{bytes_eq}
use Rattle.std.specs.Cmp.Lexicographic.{bytes_decides}
use Rattle.std.proofs.lemmas.Bool.{cases_lt, le-ltb, lt-ltb, ltb-false}
use Rattle.std.proofs.lemmas.List.{take-append-drop, take_all}
use Rattle.byteorder.specs.Endian.{little_bytes, little_number}
use Rattle.image.specs.Image.{Words}
use Rattle.image.specs.ImageBytes.{Segment, count_read, cut_fault, end_fault, head_address, head_count, image_bytes, image_read, is_taken, magic, numbers, read_by, segment_bytes, segment_fault, segments_read, with_words}
use Rattle.image.specs.Spelling.{AreNumbers, CanFollow, PassImage, with_segments}
use Rattle.image.specs.declared.reading.ReadFault.{ReadFault}
use Rattle.image.specs.declared.reading.ReadFault.TheVariants.{BadMagic, Misaligned, OutOfRange, Overlap, TrailingBytes, Truncated}
use Rattle.image.proofs.AcceptLemmas.{AreBytes, bytes_after, four_split, head_counted, numbers_fit, segment_at, segment_split}
use Rattle.image.proofs.CutLemmas.{same_fault}
use Rattle.image.proofs.SegmentLemmas.{length_numbers, no_other_fault}
use Rattle.image.proofs.SpellLemmas.{begun, counted, segment_read}

-- ## What follows an image's bytes is trailing

segments_then : (segments : List Segment) (before : Words) (rest : List ℕ) → CanFollow before segments → AllByRecursion (λ s. AreNumbers s.words) segments
    → segments_read (length segments) before (flat_map segment_bytes segments ++ rest) ≡ segments_read 0 (with_segments before segments) rest
segments_then [] before rest follow all = refl
segments_then (s ∷ others) before rest follow all =
    ap (λ (bs : List ℕ). segments_read (suc (length others)) before bs) (append_assoc (segment_bytes s) (flat_map segment_bytes others) rest)
    ∙ segment_read s before (flat_map segment_bytes others ++ rest) (length others) follow.0 all.0
    ∙ segments_then others (with_words before s.address s.words) rest follow.1 all.1

trailing : (words : Words) (rest : List ℕ) → 0 < length rest → segments_read 0 words rest ≡ Err TrailingBytes
trailing words [] some = absurd (omega (arith, some))
trailing words (b ∷ rest) some = refl

pub passed_trailing : (bytes : List ℕ) → PassImage bytes → image_read bytes ≡ Err TrailingBytes
passed_trailing bytes pass =
    let image = pass.whole in
    let segments = image.0 in
    let spell = image.2 in
    let four = little_bytes 4 (length segments) in
    let body = flat_map segment_bytes segments in
    ap image_read (pass.split ∙ ap (λ (bs : List ℕ). bs ++ pass.after) image.3 ∙ append_assoc magic (four ++ body) pass.after ∙ ap (λ (bs : List ℕ). magic ++ bs) (append_assoc four body pass.after))
    ∙ begun (four ++ (body ++ pass.after))
    ∙ counted (length segments) (body ++ pass.after) spell.few
    ∙ segments_then segments [] pass.after spell.follow spell.numbers
    ∙ trailing (with_segments [] segments) pass.after pass.some

-- ## Trailing bytes follow an image's

record Passes (left : ℕ) (before : Words) (bytes : List ℕ) : Type 0 where
  segments : List Segment
  count : length segments ≡ left
  after : List ℕ
  some : 0 < length after
  bytes_are : bytes ≡ flat_map segment_bytes segments ++ after
  numbers_are : AllByRecursion (λ s. AreNumbers s.words) segments
  follow : CanFollow before segments

-- no fault of a head
never_passed : (words : Words) (a n : ℕ) → segment_fault words a n ≡ Some TrailingBytes → ⊥
never_passed = no_other_fault TrailingBytes (λ e. cc) (λ e. cc) (λ e. cc)

never_cut : (words : Words) (left : ℕ) (bytes : List ℕ) → cut_fault words left bytes ≡ TrailingBytes → ⊥
never_cut words left bytes e = by (not (head_address bytes % 4 == 0)) (nat_lt 65536 (length words + suc left)) (length bytes == 3 && (is_taken words (head_address bytes) && (is_taken words (head_address bytes + 0x1000000) && (is_taken words (head_address bytes + 0x2000000) && is_taken words (head_address bytes + 0x3000000))))) e
  where
    by : (odd long taken : Bool) → cond odd Misaligned (cond long OutOfRange (cond taken Overlap Truncated)) ≡ TrailingBytes → ⊥
    by true long taken e = absurd (cc)
    by false true taken e = absurd (cc)
    by false false true e = absurd (cc)
    by false false false e = absurd (cc)

never_ends : (named left : ℕ) → end_fault named left ≡ TrailingBytes → ⊥
never_ends named left e = by (nat_lt 65536 (named + left)) e
  where
    by : (long : Bool) → cond long OutOfRange Truncated ≡ TrailingBytes → ⊥
    by true e = absurd (cc)
    by false e = absurd (cc)

passed_later : (fault : Option ReadFault) (short : Bool) (end : ReadFault) (rest : Result Words ReadFault) → (fault ≡ Some TrailingBytes → ⊥) → (end ≡ TrailingBytes → ⊥) → read_by fault (cond short (Err end) rest) ≡ Err TrailingBytes
    → (fault ≡ None) × (short ≡ false) × (rest ≡ Err TrailingBytes)
passed_later (Some f) short end rest no_head no_end e = absurd (no_head (ap Some (same_fault {A = Words} f TrailingBytes _ _ refl refl e)))
passed_later None true end rest no_head no_end e = absurd (no_end (same_fault {A = Words} end TrailingBytes _ _ refl refl e))
passed_later None false end rest no_head no_end e = (refl, refl, e)

passes : (left : ℕ) (before : Words) (bytes : List ℕ) → AreBytes bytes → segments_read left before bytes ≡ Err TrailingBytes → Passes left before bytes
passes zero before [] all e = absurd (cc)
passes zero before (b ∷ rest) all e = record { segments = []; count = refl; after = b ∷ rest; some = omega arith; bytes_are = refl; numbers_are = tt; follow = tt }
passes (suc left) before bytes all e = elim (cases_lt (length bytes) 4) [
  | inl cut ↦ absurd (never_cut before left bytes (same_fault {A = Words} _ _ _ _ refl refl (rw (lt-ltb (length bytes) 4 cut) at e)))
  | inr whole ↦
      let a = head_address bytes in
      let count = head_count bytes in
      let new = with_words before a (numbers count (drop 8 bytes)) in
      let p = passed_later (segment_fault before a count) (nat_lt (length bytes) (8 + 4 * count)) (end_fault (length before + count) left) (segments_read left new (drop (8 + 4 * count) bytes)) (never_passed before a count) (never_ends (length before + count) left) (rw (le-ltb (length bytes) 4 whole) at e) in
      let long : 8 + 4 * count ≤ length bytes = ltb-false (length bytes) (8 + 4 * count) p.1 in
      passed_on left before bytes all long p.0 (passes left new (drop (8 + 4 * count) bytes) (bytes_after (8 + 4 * count) bytes all) p.2)
]
  where
    passed_on : (n : ℕ) (old : Words) (bs : List ℕ) → AreBytes bs → 8 + 4 * head_count bs ≤ length bs → segment_fault old (head_address bs) (head_count bs) ≡ None
        → Passes n (with_words old (head_address bs) (numbers (head_count bs) (drop 8 bs))) (drop (8 + 4 * head_count bs) bs) → Passes (suc n) old bs
    passed_on n old bs all_bs long none others =
        let count = head_count bs in
        let s = segment_at count bs in
        record {
          segments = s ∷ others.segments;
          count = ap suc others.count;
          after = others.after;
          some = others.some;
          bytes_are =
              segment_split count bs all_bs (head_counted bs (omega (arith, long))) long
              ∙ ap (λ (xs : List ℕ). segment_bytes s ++ xs) others.bytes_are
              ∙ sym (append_assoc (segment_bytes s) (flat_map segment_bytes others.segments) others.after);
          numbers_are = (numbers_fit count (drop 8 bs) (bytes_after 8 bs all_bs), others.numbers_are);
          follow = (ap (λ (m : ℕ). segment_fault old (head_address bs) m) (length_numbers count (drop 8 bs)) ∙ none, others.follow);
        }

count_whole : (many short : Bool) (rest : Result Words ReadFault) → cond many (Err OutOfRange) (cond short (Err Truncated) rest) ≡ Err TrailingBytes → (many ≡ false) × (short ≡ false) × (rest ≡ Err TrailingBytes)
count_whole true short rest e = absurd (cc)
count_whole false true rest e = absurd (cc)
count_whole false false rest e = (refl, refl, e)

magic_whole : (same short : Bool) (rest : Result Words ReadFault) → cond same (cond short (Err Truncated) rest) (Err BadMagic) ≡ Err TrailingBytes → (same ≡ true) × (short ≡ false) × (rest ≡ Err TrailingBytes)
magic_whole false short rest e = absurd (cc)
magic_whole true true rest e = absurd (cc)
magic_whole true false rest e = (refl, refl, e)

body_passes : (body : List ℕ) → AreBytes body → count_read body ≡ Err TrailingBytes → PassImage (magic ++ body)
body_passes body all e =
    let n = little_number 4 body in
    let p = count_whole (nat_lt 16 n) (nat_lt (length body) 4) (segments_read n [] (drop 4 body)) e in
    let few : n ≤ 16 = ltb-false 16 n p.0 in
    let passed = passes n [] (drop 4 body) (bytes_after 4 body all) p.2 in
    let segments = passed.segments in
    let count = passed.count in
    let four = little_bytes 4 (length segments) in
    let after = flat_map segment_bytes segments in
    record {
      image = image_bytes segments;
      after = passed.after;
      some = passed.some;
      split =
          ap (λ (bs : List ℕ). magic ++ bs) (
          four_split body all (ltb-false (length body) 4 p.1)
          ∙ ap (λ (m : ℕ). little_bytes 4 m ++ drop 4 body) (sym count)
          ∙ ap (λ (bs : List ℕ). four ++ bs) passed.bytes_are
          ∙ sym (append_assoc four after passed.after))
          ∙ sym (append_assoc magic (four ++ after) passed.after);
      whole = (segments, with_segments [] segments, record { few = omega (arith, count, few); numbers = passed.numbers_are; follow = passed.follow; words_are = refl }, refl);
    }

pub trailing_passes : (bytes : List ℕ) → AreBytes bytes → image_read bytes ≡ Err TrailingBytes → PassImage bytes
trailing_passes bytes all e =
    let p = magic_whole (bytes_eq (take 8 bytes) (take (length bytes) magic)) (nat_lt (length bytes) 8) (count_read (drop 8 bytes)) e in
    let same : take 8 bytes ≡ take (length bytes) magic = (bytes_decides (take 8 bytes) (take (length bytes) magic)).0 p.0 in
    let split : magic ++ drop 8 bytes ≡ bytes = ap (λ (m : List ℕ). m ++ drop 8 bytes) (sym (same ∙ take_all (length bytes) magic (ltb-false (length bytes) 8 p.1))) ∙ take-append-drop 8 bytes in
    subst PassImage split (body_passes (drop 8 bytes) (bytes_after 8 bytes all) p.2)
