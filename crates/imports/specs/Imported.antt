-- The image of bytes whose addresses are stated: words of 32 bits side by side, their lowest bytes first. The
-- rules are our own.
use Rattle.std.specs.Prelude.{ℕ, ◌+◌, ◌%◌, ◌==◌, ◌≡◌, not, nat_lt, if◌then◌else◌, List, [], ◌∷◌}
use Rattle.std.specs.Prelude.{flat_map, length, Option, Some, None, Result, Ok, Err}
use Rattle.byteorder.specs.Endian.{little_number}
use Rattle.image.specs.Image.{Words, may_hold, put_fault, with_word, word_of}
use Rattle.image.specs.declared.image.ImageFault.{ImageFault}
use Rattle.image.specs.declared.image.ImageFault.TheVariants as image_fault
use Rattle.imports.specs.declared.fault.ImportFault.{ImportFault}
use Rattle.imports.specs.declared.fault.ImportFault.TheVariants.{Memory, Misaligned, Overlap, OutOfRange}
use Rattle.imports.specs.declared.fault.ImportFault.TheVariants.{TooLong, TooManyParts}
use Rattle.imports.specs.declared.parts.Part.{Part}
use Rattle.imports.specs.declared.parts.TheConstants.{MOST_PARTS}

-- bytes, from the address of their first word on
pub record Placed : Type 0 where
  pub address : ℕ
  pub bytes : List ℕ

abbrev pub part_of : Part → Placed
part_of part = record { address = part.address; bytes = part.bytes.now }

-- the words that bytes are, from an address on: four bytes each, the lowest first; the last word may miss
-- some, which are 0
abbrev pub words_from : ℕ → List ℕ → Words
words_from address [] = []
words_from address (a ∷ []) = (address, little_number 4 (a ∷ [])) ∷ []
words_from address (a ∷ b ∷ []) = (address, little_number 4 (a ∷ b ∷ [])) ∷ []
words_from address (a ∷ b ∷ c ∷ []) = (address, little_number 4 (a ∷ b ∷ c ∷ [])) ∷ []
words_from address (a ∷ b ∷ c ∷ d ∷ rest) =
    (address, little_number 4 (a ∷ b ∷ c ∷ d ∷ [])) ∷ words_from (address + 4) rest

abbrev pub part_words : Placed → Words
part_words part = words_from part.address part.bytes

-- the words of all parts, in their order
abbrev pub words_of : List Placed → Words
words_of parts = flat_map part_words parts

-- ## What an image takes

-- why words do not take one more
abbrev pub fault_at : ℕ → Option ImageFault → Option ImportFault
fault_at address None = None
fault_at address (Some image_fault.Memory) = Some Memory
fault_at address (Some image_fault.OutOfRange) = Some (Overlap address)
fault_at address (Some image_fault.TooLong) = Some (TooLong address)

abbrev pub word_fault : Words → ℕ → ℕ → Option ImportFault
word_fault words address word =
    if not (address % 4 == 0) then Some (Misaligned address)
    else (if not (may_hold address) then Some (OutOfRange address)
    else fault_at address (put_fault words address word))

-- a result, unless there is a fault
abbrev pub unless : {A : Type 0} → Option ImportFault → Result A ImportFault → Result A ImportFault
unless None result = result
unless (Some fault) result = Err fault

-- the words with others, or the fault of the first that those before it do not take
abbrev pub put_each : Words → Words → Result Words ImportFault
put_each words [] = Ok words
put_each words (e ∷ rest) = unless (word_fault words e.0 e.1) (put_each (with_word words e.0 e.1) rest)

-- the words of an image of parts, or the first fault
abbrev pub imported : List Placed → Result Words ImportFault
imported parts = if nat_lt MOST_PARTS (length parts) then Err TooManyParts else put_each [] (words_of parts)

-- each of these words is at its address, and there are no others
abbrev pub HoldsExactly : Words → Words → Type 0
HoldsExactly image words = (address : ℕ) → word_of image address ≡ word_of words address
