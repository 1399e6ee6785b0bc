-- An image: which words are at which addresses (memory map shaped on the VL86C110 data sheet's, with I/O
-- from 3000000 to 33FFFFF).
use Rattle.std.specs.Prelude.{ℕ, ◌+◌, ◌%◌, Bool, ◌&&◌, ◌||◌, ◌==◌, not, nat_lt, nat_le, if◌then◌else◌, List}
use Rattle.std.specs.Prelude.{[], ◌∷◌, length, Option, Some, None, is_some, ◌≡◌, false, All}
use Rattle.bus_ticks.specs.declared.space.TheConstants.{IO_START, ROM_START, SPACE_END}
use Rattle.image.specs.declared.places.TheConstants.{LARGEST_RAM_END, MOST_SEGMENTS, MOST_WORDS}
use Rattle.image.specs.declared.image.ImageFault.{ImageFault}
use Rattle.image.specs.declared.image.ImageFault.TheVariants.{OutOfRange, TooLong}

-- addresses and their words; those of an image ascend
abbrev pub Words : Type 0
Words = List (ℕ × ℕ)

-- the word at an address
abbrev pub word_of : Words → ℕ → Option ℕ
word_of [] address = None
word_of (e ∷ rest) address = if e.0 == address then Some e.1 else word_of rest address

-- words of an image, in any order, each as often as one likes
abbrev pub AreOf : Words → Words → Type 0
AreOf image words = All (λ e. word_of image e.0 ≡ Some e.1) words

-- the words with one more, at an address that has none yet
abbrev pub with_word : Words → ℕ → ℕ → Words
with_word [] address word = (address, word) ∷ []
with_word (e ∷ rest) address word =
    if nat_lt address e.0 then (address, word) ∷ e ∷ rest else e ∷ with_word rest address word

-- the addresses from one up to another, without it, lie in RAM or in ROM
abbrev pub lies_in_memory : ℕ → ℕ → Bool
lies_in_memory from to = nat_le to IO_START || (nat_le ROM_START from && nat_le to SPACE_END)

-- a word may be at a multiple of 4, in memory
abbrev pub may_hold : ℕ → Bool
may_hold address = address % 4 == 0 && lies_in_memory address (address + 4)

-- from 2400000 to 2FFFFFF, where no RAM is fitted even with the largest pages, of 32 KB
abbrev pub is_past_ram : ℕ → Bool
is_past_ram address = nat_le LARGEST_RAM_END address && nat_lt address IO_START

-- not past RAM
abbrev pub IsFitted : ℕ → Type 0
IsFitted address = is_past_ram address ≡ false

-- 1 where a word does not follow the word before it, and so begins a run
abbrev pub begins : Option ℕ → ℕ → ℕ
begins None address = 1
begins (Some before) address = if address == before + 4 then 0 else 1

-- the runs of words side by side, after a word or after none
abbrev pub runs_after : Option ℕ → Words → ℕ
runs_after before [] = 0
runs_after before (e ∷ rest) = begins before e.0 + runs_after (Some e.0) rest

-- the number of maximal runs
abbrev pub runs_of : Words → ℕ
runs_of words = runs_after None words

-- why a word cannot be put: the lowest reason
abbrev pub put_fault : Words → ℕ → ℕ → Option ImageFault
put_fault words address word =
    if not (may_hold address) || is_some (word_of words address) then Some OutOfRange
    else
    (if nat_le MOST_WORDS (length words) || nat_lt MOST_SEGMENTS (runs_of (with_word words address word))
    then Some TooLong else None)
