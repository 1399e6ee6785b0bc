-- The bytes of segments are read as their words.
use Rattle.std.proofs.Common.{◌≡◌, ◌∙◌, ℕ, suc, ◌+◌, ◌*◌, ◌^◌, ◌<◌, ◌≤◌, Bool, true, false, cond, List, [], ◌∷◌, ◌++◌, length, take, drop, flat_map, Option, None, Result, Ok, Err, refl, sym, ap, subst, inl, inr, arith, length-append}
use Rattle.std.specs.Prelude.{◌==◌, nat_lt}
use Rattle.std.specs.List.{AllByRecursion}
use Rattle.std.specs.Str.{bytes_eq}
use Rattle.std.proofs.lemmas.Bool.{le-ltb, ne_eqb, cond-false, cond-true}
use Rattle.std.proofs.lemmas.List.{take_all, drop-drop}
use Rattle.std.proofs.Math.Seq.{drop-append_seam}
use Rattle.byteorder.specs.Endian.{little_bytes, little_number}
use Rattle.byteorder.specs.Numbers.{little_number-reads_back}
use Rattle.image.specs.Image.{Words}
use Rattle.image.specs.ImageBytes.{Segment, count_read, cut_fault, end_fault, head_address, head_count, image_bytes, image_read, magic, numbers, read_by, segment_bytes, segment_fault, segments_read, with_words}
use Rattle.image.specs.Spelling.{AreNumbers, CanFollow, Spell, with_segments}
use Rattle.image.specs.declared.reading.ReadFault.{ReadFault}
use Rattle.image.proofs.SegmentLemmas.{CanStand, can_stand}

-- ## Numbers

pub four_read : (x : ℕ) (rest : List ℕ) → x < 2 ^ 32 → little_number 4 (little_bytes 4 x ++ rest) ≡ x
four_read x rest lt = little_number-reads_back 4 x rest lt

words_read : (words rest : List ℕ) → AreNumbers words → numbers (length words) (flat_map (little_bytes 4) words ++ rest) ≡ words
words_read [] rest all = refl
words_read (w ∷ words) rest all =
    ap (λ (v : ℕ). v ∷ numbers (length words) (flat_map (little_bytes 4) words ++ rest)) (four_read w (flat_map (little_bytes 4) words ++ rest) all.0)
    ∙ ap (λ (ws : List ℕ). w ∷ ws) (words_read words rest all.1)

words_length : (words : List ℕ) → length (flat_map (little_bytes 4) words) ≡ 4 * length words
words_length [] = refl
words_length (w ∷ words) = let more = words_length words in omega (arith, more)

words_after : (words rest : List ℕ) → drop (4 * length words) (flat_map (little_bytes 4) words ++ rest) ≡ rest
words_after words rest = ap (λ (n : ℕ). drop n (flat_map (little_bytes 4) words ++ rest)) (sym (words_length words)) ∙ drop-append_seam (flat_map (little_bytes 4) words) rest

-- ## One segment

pub count_taken : (c d : ℕ) → 0 < c → cond (c == 0) d c ≡ c
count_taken c d some = rw (ne_eqb c 0 (λ none. omega (arith, some, none))) refl

no_fault : (fault : Option ReadFault) (short : Bool) (end : ReadFault) (rest : Result Words ReadFault) → fault ≡ None → short ≡ false → read_by fault (cond short (Err end) rest) ≡ rest
no_fault fault short end rest none long = rw (none, long) refl

-- what is read at a head whose numbers are known
abbrev pub read_at : ℕ → Words → List ℕ → ℕ → ℕ → Result Words ReadFault
read_at left before bytes address count =
    cond (nat_lt (length bytes) 4) (Err (cut_fault before left bytes))
    (read_by (segment_fault before address count)
    (cond (nat_lt (length bytes) (8 + 4 * count)) (Err (end_fault (length before + count) left)) (segments_read left (with_words before address (numbers count (drop 8 bytes))) (drop (8 + 4 * count) bytes))))

-- one segment is read where its head, which is whole, has no fault
pub read_step : (left : ℕ) (words new : Words) (bytes rest : List ℕ) (address count : ℕ) → head_address bytes ≡ address → head_count bytes ≡ count → segment_fault words address count ≡ None
    → 8 + 4 * count ≤ length bytes → with_words words address (numbers count (drop 8 bytes)) ≡ new → drop (8 + 4 * count) bytes ≡ rest → segments_read (suc left) words bytes ≡ segments_read left new rest
read_step left words new bytes rest address count is_address is_count none long is_new is_rest =
    ap (λ (a : ℕ). read_at left words bytes a (head_count bytes)) is_address
    ∙ ap (λ (n : ℕ). read_at left words bytes address n) is_count
    ∙ cond-false (nat_lt (length bytes) 4) _ _ (le-ltb (length bytes) 4 (omega (arith, long)))
    ∙ no_fault (segment_fault words address count) (nat_lt (length bytes) (8 + 4 * count)) _ _ none (le-ltb (length bytes) (8 + 4 * count) long)
    ∙ ap (λ (ws : Words). segments_read left ws (drop (8 + 4 * count) bytes)) is_new
    ∙ ap (λ (bs : List ℕ). segments_read left new bs) is_rest

pub segment_read : (s : Segment) (before : Words) (rest : List ℕ) (left : ℕ) → segment_fault before s.address (length s.words) ≡ None → AreNumbers s.words
    → segments_read (suc left) before (segment_bytes s ++ rest) ≡ segments_read left (with_words before s.address s.words) rest
segment_read s before rest left none all =
    let bytes = segment_bytes s ++ rest in
    let words = flat_map (little_bytes 4) s.words in
    let can : CanStand before s.address (length s.words) = can_stand before s.address (length s.words) none in
    let low : s.address < 2 ^ 32 = elim can.lies [ inl below ↦ omega (arith, below) | inr above ↦ let most = above.1 in omega (arith, most) ] in
    let few : length s.words < 2 ^ 32 = let most = can.few in omega (arith, most) in
    let address : head_address bytes ≡ s.address = four_read s.address (little_bytes 4 (length s.words) ++ (words ++ rest)) low in
    let number : little_number 4 (drop 4 bytes) ≡ length s.words = four_read (length s.words) (words ++ rest) few in
    let some : 0 < little_number 4 (drop 4 bytes) = subst (λ (n : ℕ). 0 < n) (sym number) can.some in
    let count : head_count bytes ≡ length s.words = count_taken (little_number 4 (drop 4 bytes)) _ some ∙ number in
    let long : length bytes ≡ 8 + 4 * length s.words + length rest = (let l = words_length s.words in let a = length-append words rest in omega (arith, l, a)) in
    let after : drop (8 + 4 * length s.words) bytes ≡ rest =
    ap (λ (n : ℕ). drop n bytes) (omega arith) ∙ sym (drop-drop (4 * length s.words) 8 bytes) ∙ words_after s.words rest in
    read_step left before (with_words before s.address s.words) bytes rest s.address (length s.words) address count none (omega (arith, long))
    (ap (λ (ws : List ℕ). with_words before s.address ws) (words_read s.words rest all)) after

-- ## All segments

segments_all : (segments : List Segment) (before : Words) → CanFollow before segments → AllByRecursion (λ s. AreNumbers s.words) segments
    → segments_read (length segments) before (flat_map segment_bytes segments) ≡ Ok (with_segments before segments)
segments_all [] before follow all = refl
segments_all (s ∷ rest) before follow all = segment_read s before (flat_map segment_bytes rest) (length rest) follow.0 all.0 ∙ segments_all rest (with_words before s.address s.words) follow.1 all.1

pub begun : (body : List ℕ) → image_read (magic ++ body) ≡ count_read body
begun body =
    let bytes = magic ++ body in
    let whole : take (length bytes) magic ≡ magic = take_all (length bytes) magic (omega arith) in
    let same : bytes_eq (take 8 bytes) (take (length bytes) magic) ≡ true = ap (λ (m : List ℕ). bytes_eq magic m) whole in
    cond-true _ _ _ same ∙ cond-false _ _ _ (le-ltb (length bytes) 8 (omega arith))

pub counted : (n : ℕ) (body : List ℕ) → n ≤ 16 → count_read (little_bytes 4 n ++ body) ≡ segments_read n [] body
counted n body few =
    let bytes = little_bytes 4 n ++ body in
    let number : little_number 4 bytes ≡ n = four_read n body (omega (arith, few)) in
    let most : nat_lt 16 (little_number 4 bytes) ≡ false = le-ltb 16 _ (subst (λ (m : ℕ). m ≤ 16) (sym number) few) in
    cond-false _ _ _ most ∙ cond-false _ _ _ (le-ltb (length bytes) 4 (omega arith)) ∙ ap (λ (m : ℕ). segments_read m [] body) number

-- the bytes of segments that spell an image are read as the image
pub spelled_read : (segments : List Segment) (words : Words) → Spell segments words → image_read (image_bytes segments) ≡ Ok words
spelled_read segments words spell =
    begun (little_bytes 4 (length segments) ++ flat_map segment_bytes segments)
    ∙ counted (length segments) (flat_map segment_bytes segments) spell.few
    ∙ segments_all segments [] spell.follow spell.numbers
    ∙ ap (λ (ws : Words). Ok ws) (sym spell.words_are)
