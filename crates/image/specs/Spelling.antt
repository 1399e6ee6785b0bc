-- The segments that spell an image.
use Rattle.std.specs.Prelude.{◌≡◌, ◌<◌, ◌≤◌, ◌^◌, ℕ, List, [], ◌∷◌, ◌++◌, length, None}
use Rattle.std.specs.List.{AllByRecursion}
use Rattle.image.specs.Image.{Words}
use Rattle.image.specs.ImageBytes.{Segment, image_bytes, segment_fault, with_words}
use Rattle.image.specs.declared.places.TheConstants.{MOST_SEGMENTS}

-- the words of segments, after others
abbrev pub with_segments : Words → List Segment → Words
with_segments words [] = words
with_segments words (s ∷ rest) = with_segments (with_words words s.address s.words) rest

-- each segment can come after the words before it: a multiple of 4, some words, in memory, and none in
-- another's place
abbrev pub CanFollow : Words → List Segment → Type 0
CanFollow words [] = Unit {0}
CanFollow words (s ∷ rest) =
    (segment_fault words s.address (length s.words) ≡ None)
    × CanFollow (with_words words s.address s.words) rest

-- words of 32 bits
abbrev pub AreNumbers : List ℕ → Type 0
AreNumbers words = AllByRecursion (λ w. w < 2 ^ 32) words

-- an image is the words of at most 16 segments, each of which can come after those before it
pub record Spell (segments : List Segment) (words : Words) : Type 0 where
  pub few : length segments ≤ MOST_SEGMENTS
  pub numbers : AllByRecursion (λ s. AreNumbers s.words) segments
  pub follow : CanFollow [] segments
  pub words_are : words ≡ with_segments [] segments

-- the bytes of an image
abbrev pub AreImage : List ℕ → Type 0
AreImage bytes =
    (segments : List Segment) × (words : Words) × Spell segments words × (bytes ≡ image_bytes segments)

-- bytes that end too early: with those that are missing after them they are an image's
pub record BeginImage (bytes : List ℕ) : Type 0 where
  pub missing : List ℕ
  pub some : 0 < length missing
  pub whole : AreImage (bytes ++ missing)

-- bytes that go on after those of an image
pub record PassImage (bytes : List ℕ) : Type 0 where
  pub image : List ℕ
  pub after : List ℕ
  pub some : 0 < length after
  pub split : bytes ≡ image ++ after
  pub whole : AreImage image
