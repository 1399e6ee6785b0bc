-- What an image keeps of its words.
use Rattle.std.specs.Prelude.{◌≡◌, ◌<◌, ◌≤◌, ◌+◌, ◌-◌, ◌*◌, ◌^◌, ℕ, true, IsTrue, List, []}
use Rattle.std.specs.Prelude.{◌∷◌, ◌++◌, length, None, is_some}
use Rattle.std.specs.List.{AllByRecursion}
use Rattle.image.specs.Image.{Words, may_hold, runs_of, word_of}
use Rattle.image.specs.ImageBytes.{numbers, with_words}
use Rattle.image.specs.declared.places.TheConstants.{MOST_SEGMENTS, MOST_WORDS}
use Rattle.image.specs.declared.image.Image.TheInside.{Inside}

-- the words below a place, and those above it
abbrev pub words_in : Inside → Words
words_in image = image.below.items ++ image.above.items

-- each address is below those after it
abbrev pub Ascends : Words → Type 0
Ascends [] = Unit {0}
Ascends (e ∷ rest) = AllByRecursion (λ f. e.0 < f.0) rest × Ascends rest

-- each word is where one may be
abbrev pub AreAllowed : Words → Type 0
AreAllowed words = AllByRecursion (λ e. IsTrue (may_hold e.0)) words

-- words of 32 bits
abbrev pub HasNumbers : Words → Type 0
HasNumbers words = AllByRecursion (λ e. e.1 < 2 ^ 32) words

pub record IsImage (image : Inside) : Type 0 where
  pub ascends : Ascends (words_in image)
  pub allowed : AreAllowed (words_in image)
  pub numbers : HasNumbers (words_in image)
  pub counted : image.runs ≡ runs_of (words_in image)
  pub few_runs : image.runs ≤ MOST_SEGMENTS
  pub few_words : length (words_in image) ≤ MOST_WORDS

-- what every image keeps, by its words alone
pub record AreWhole (words : Words) : Type 0 where
  pub ascends : Ascends words
  pub allowed : AreAllowed words
  pub numbers : HasNumbers words
  pub few_runs : runs_of words ≤ MOST_SEGMENTS
  pub few_words : length words ≤ MOST_WORDS

-- so many words of a segment are put after the old ones, and the rest of it is free
pub record IsPartly (old : Words) (address count : ℕ) (bytes : List ℕ) (done : ℕ) (new : Words) : Type 0 where
  pub is : new ≡ with_words old address (numbers done bytes)
  pub free : (a : ℕ) → address + 4 * done ≤ a → a < address + 4 * count → word_of new a ≡ None
  pub long : length new ≡ length old + done
  pub few : runs_of new ≤ runs_of old + 1
  pub last : 0 < done → is_some (word_of new (address + 4 * done - 4)) ≡ true
