-- Whether two sources that are loaded at the same time have words at one address.
use Rattle.std.specs.Prelude.{◌≡◌, ℕ, ◌≤◌, List, Option, Some, None, Ok, IsSome}
use Rattle.image.specs.Image.{Words, word_of}
use Rattle.image.specs.Labels.{Names}
use Rattle.sources.specs.Source.{source_of}
use Rattle.sources.specs.File.{File}

-- ## Words

-- both have a word at the address
abbrev pub MeetAt : Words → Words → ℕ → Type 0
MeetAt words others address = IsSome (word_of words address) × IsSome (word_of others address)

-- the least address at which both have a word; None: they share none
abbrev pub IsFirstShared : Words → Words → Option ℕ → Type 0
IsFirstShared words others (Some address) =
    MeetAt words others address × ((other : ℕ) → MeetAt words others other → address ≤ other)
IsFirstShared words others None = (address : ℕ) → MeetAt words others address → ⊥

-- ## Sources

-- two sources have words, and share this address first, or none
pub record SourcesShare (source other : File) (shared : Option ℕ) : Type 0 where
  pub words : Words
  pub names : Names
  pub others : Words
  pub other_names : Names
  pub source_is : source_of source ≡ Ok (words, names)
  pub other_is : source_of other ≡ Ok (others, other_names)
  pub shared_is : IsFirstShared words others shared
