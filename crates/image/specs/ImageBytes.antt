-- Images as bytes. Every number has 32 bits, the lowest byte first.
use Rattle.std.specs.Prelude.{ℕ, zero, suc, ◌+◌, ◌*◌, ◌%◌, ◌==◌, ◌&&◌, ◌||◌, not, nat_eq, nat_lt, nat_le}
use Rattle.std.specs.Prelude.{if◌then◌else◌, Bool, List, [], ◌∷◌, ◌++◌, length, drop, take, flat_map, codes}
use Rattle.std.specs.Prelude.{Option, Some, None, is_some, Result, Ok, Err}
use Rattle.std.specs.List.{list_any, starts_with}
use Rattle.std.specs.Str.{bytes_eq}
use Rattle.byteorder.specs.Endian.{little_bytes, little_number}
use Rattle.image.specs.Image.{Words, lies_in_memory, may_hold, with_word, word_of}
use Rattle.image.specs.declared.places.TheConstants.{MOST_SEGMENTS, MOST_WORDS}
use Rattle.image.specs.declared.reading.ReadFault.{ReadFault}
use Rattle.image.specs.declared.reading.ReadFault.TheVariants.{BadMagic, Truncated, Overlap, Misaligned}
use Rattle.image.specs.declared.reading.ReadFault.TheVariants.{TrailingBytes, OutOfRange}

-- ## How an image is written

abbrev pub magic : List ℕ
magic = codes "ARC2IMG1"

-- bytes begin as an image does
abbrev pub is_image : List ℕ → Bool
is_image bytes = starts_with nat_eq bytes magic

-- words side by side
pub record Segment : Type 0 where
  pub address : ℕ
  pub words : List ℕ

-- the address, the number of words, the words
abbrev pub segment_bytes : Segment → List ℕ
segment_bytes s =
    little_bytes 4 s.address ++ (little_bytes 4 (length s.words) ++ flat_map (little_bytes 4) s.words)

-- the magic, the number of segments, the segments
abbrev pub image_bytes : List Segment → List ℕ
image_bytes segments = magic ++ (little_bytes 4 (length segments) ++ flat_map segment_bytes segments)

-- a word before segments: it joins the first of them where it comes right before it
abbrev pub joined : ℕ → ℕ → List Segment → List Segment
joined address word [] = record { address = address; words = word ∷ [] } ∷ []
joined address word (s ∷ rest) =
    if s.address == address + 4 then record { address = address; words = word ∷ s.words } ∷ rest
    else record { address = address; words = word ∷ [] } ∷ s ∷ rest

-- the maximal runs of words, ascending
abbrev pub segments_of : Words → List Segment
segments_of [] = []
segments_of (e ∷ rest) = joined e.0 e.1 (segments_of rest)

-- ## How an image is read

-- more words, side by side from an address on
abbrev pub with_words : Words → ℕ → List ℕ → Words
with_words words address [] = words
with_words words address (w ∷ rest) = with_words (with_word words address w) (address + 4) rest

-- the first numbers that some bytes hold
abbrev pub numbers : ℕ → List ℕ → List ℕ
numbers zero bytes = []
numbers (suc count) bytes = little_number 4 bytes ∷ numbers count (drop 4 bytes)

-- Bytes of a head that are missing are taken as the least that they can be: as 0, and where that would be no
-- words, the first that is missing as 1.
abbrev pub head_address : List ℕ → ℕ
head_address bytes = little_number 4 bytes

abbrev pub head_count : List ℕ → ℕ
head_count bytes =
    let count = little_number 4 (drop 4 bytes) in
    if count == 0 then little_number 4 (drop 4 bytes ++ 1 ∷ []) else count

-- there is one of so many words from the address on
abbrev pub overlaps : Words → ℕ → ℕ → Bool
overlaps words address count = list_any (λ e. nat_le address e.0 && nat_lt e.0 (address + 4 * count)) words

-- why a segment cannot come after words
abbrev pub segment_fault : Words → ℕ → ℕ → Option ReadFault
segment_fault words address count =
    if not (address % 4 == 0) then Some Misaligned
    else
    (if count == 0
    || (not (lies_in_memory address (address + 4 * count)) || nat_lt MOST_WORDS (length words + count))
    then Some OutOfRange
    else (if overlaps words address count then Some Overlap else None))

-- no word can be put at an address
abbrev pub is_taken : Words → ℕ → Bool
is_taken words address = not (may_hold address) || is_some (word_of words address)

-- why bytes that end too early are no image's: so many words that they name and one for each segment to come
-- pass 65,536
abbrev pub end_fault : ℕ → ℕ → ReadFault
end_fault named to_come = if nat_lt MOST_WORDS (named + to_come) then OutOfRange else Truncated

-- Why bytes that end within the address of a segment, with so many others to come, are no image's. Three
-- bytes leave four addresses, 1000000 apart, and all of them may be taken or in I/O; fewer always leave a
-- free one.
abbrev pub cut_fault : Words → ℕ → List ℕ → ReadFault
cut_fault words others bytes =
    let low = head_address bytes in
    if not (low % 4 == 0) then Misaligned
    else (if nat_lt MOST_WORDS (length words + suc others) then OutOfRange
    else
    (if length bytes == 3
    &&
    (is_taken words low
    &&
    (is_taken words (low + 0x1000000)
    && (is_taken words (low + 0x2000000) && is_taken words (low + 0x3000000))))
    then Overlap
    else Truncated))

-- the words of so many segments, after those before them
abbrev pub read_by : Option ReadFault → Result Words ReadFault → Result Words ReadFault
read_by (Some fault) rest = Err fault
read_by None rest = rest

abbrev pub segments_read : ℕ → Words → List ℕ → Result Words ReadFault
segments_read zero words [] = Ok words
segments_read zero words (b ∷ rest) = Err TrailingBytes
segments_read (suc left) words bytes =
    let address = head_address bytes in
    let count = head_count bytes in
    if nat_lt (length bytes) 4 then Err (cut_fault words left bytes)
    else read_by (segment_fault words address count)
    (if nat_lt (length bytes) (8 + 4 * count) then Err (end_fault (length words + count) left)
    else segments_read left (with_words words address (numbers count (drop 8 bytes)))
    (drop (8 + 4 * count) bytes))

-- after the magic: at most 16 segments
abbrev pub count_read : List ℕ → Result Words ReadFault
count_read bytes =
    if nat_lt MOST_SEGMENTS (little_number 4 bytes) then Err OutOfRange
    else
    (if nat_lt (length bytes) 4 then Err Truncated
    else segments_read (little_number 4 bytes) [] (drop 4 bytes))

-- the words of an image's bytes, or the first fault from the front
abbrev pub image_read : List ℕ → Result Words ReadFault
image_read bytes =
    if bytes_eq (take 8 bytes) (take (length bytes) magic)
    then (if nat_lt (length bytes) 8 then Err Truncated else count_read (drop 8 bytes))
    else Err BadMagic
