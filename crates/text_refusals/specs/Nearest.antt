-- Which known name a word that is none looks like.
use Rattle.std.specs.Prelude.{ℕ, ◌-◌, ◌==◌, ◌&&◌, Bool, List, [], ◌++◌, codes, find, length}
use Rattle.std.specs.Prelude.{nat_eq, nat_le, nat_lt, Option, Some, None}
use Rattle.std.specs.Option.{option_or}
use Rattle.strsim.specs.Edits.{levenshtein_row}

-- how many letters have to be put in, taken out or replaced to make the word into the name, by Levenshtein; a
-- letter is a byte
abbrev pub changes : (word name : List ℕ) → ℕ
changes word name = levenshtein_row nat_eq word name (length name)

-- so many make it, and fewer than the name has letters, so that one stays; a word that is longer by more
-- needs more
abbrev pub is_changed : ℕ → (word name : List ℕ) → Bool
is_changed n word name =
    nat_lt n (length name) && (nat_le (length word - n) (length name) && (changes word name == n))

-- the first of the names that one change makes of the word; if there is none, the first that two make
abbrev pub looks_like : List (List ℕ) → List ℕ → Option (List ℕ)
looks_like names word = option_or (find (is_changed 1 word) names) (find (is_changed 2 word) names)

-- the question whether that was meant
abbrev pub asked_text : Option (List ℕ) → List ℕ
asked_text None = []
asked_text (Some name) = codes "; did you mean " ++ (name ++ codes "?")

abbrev pub meant_text : List (List ℕ) → List ℕ → List ℕ
meant_text names word = asked_text (looks_like names word)
