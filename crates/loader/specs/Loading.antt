-- What memory holds once words are put into it: each word goes where a privileged load of its address reads,
-- and the words go in the order of their list, so that of two that lead to one place the later one stays. An
-- image's words go in the order of their addresses.
use Rattle.std.specs.Prelude.{◌≡◌, ℕ, suc, ◌/◌, Bool, false, ◌||◌, List, [], ◌∷◌, Result, Ok, is_err}
use Rattle.arm2_exec.specs.State.{State}
use Rattle.image.specs.Image.{Words}
use Rattle.memc.specs.Memory.{Memory, last_word, located, stored, with_words, word_at}
use Rattle.memc.specs.declared.spots.Refused.{Refused}
use Rattle.memc.specs.declared.spots.Spot.{Spot}
use Rattle.memc.specs.declared.spots.Spot.TheVariants.{Ram, Rom}

-- where a word goes
abbrev pub spot_of : Memory → ℕ → Result Spot Refused
spot_of m address = located m address false false

-- some word lies on no page, or past the fitted RAM
abbrev pub lacks_page : Memory → Words → Bool
lacks_page m [] = false
lacks_page m (e ∷ rest) = is_err (spot_of m e.0) || lacks_page m rest

-- one more word in front, where it goes to RAM: by the number of the word's place
abbrev pub ram_before : Result Spot Refused → ℕ → List (ℕ × ℕ) → List (ℕ × ℕ)
ram_before (Ok (Ram place)) word rest = (place / 4, word) ∷ rest
ram_before _ word rest = rest

-- the words that go to RAM
abbrev pub ram_words : Memory → Words → List (ℕ × ℕ)
ram_words m [] = []
ram_words m (e ∷ rest) = ram_before (spot_of m e.0) e.1 (ram_words m rest)

-- one more word in front, where it goes to ROM: by its address
abbrev pub rom_before : Result Spot Refused → ℕ → Words → Words
rom_before (Ok (Rom address)) word rest = (address, word) ∷ rest
rom_before _ word rest = rest

-- the words that go to ROM
abbrev pub rom_words : Memory → Words → Words
rom_words m [] = []
rom_words m (e ∷ rest) = rom_before (spot_of m e.0) e.1 (rom_words m rest)

-- the words from a place on, each of them the last that a list has for its place, or else the word before
abbrev pub with_places : List (ℕ × ℕ) → ℕ → List ℕ → List ℕ
with_places words place [] = []
with_places words place (w ∷ rest) = last_word words place w ∷ with_places words (suc place) rest

-- RAM and ROM hold the words; the page map and the control fields stay
abbrev pub loaded : Words → Memory → Memory
loaded words m =
    record m {
      paged = record m.paged { words = with_places (ram_words m words) 0 m.paged.words };
      rom = with_words m.rom (rom_words m words);
    }

-- the same in a machine, whose registers and devices stay
abbrev pub put_words : Words → State → State
put_words words s = record s { bus = record s.bus { memc = loaded words s.bus.memc } }

-- the words that go to RAM alone
abbrev pub with_ram : Words → Memory → Memory
with_ram words m =
    record m { paged = record m.paged { words = with_places (ram_words m words) 0 m.paged.words } }

-- one word, where it goes to RAM
abbrev pub put_at : Result Spot Refused → ℕ → Memory → Memory
put_at (Ok (Ram place)) word m = stored (Ram place) word m
put_at _ word m = m

-- a privileged load of the address returns the word
pub record HasWord (m : Memory) (address word : ℕ) : Type 0 where
  pub spot : Spot
  pub leads : spot_of m address ≡ Ok spot
  pub has : word_at m spot ≡ word
