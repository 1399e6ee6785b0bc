-- When one piece of knowledge implies another.
use Rattle.std.specs.Prelude.{ℕ, List}
use Rattle.known_words.specs.Known.{IsIn, IsKnown, IsSum}
use Rattle.known_words.specs.Knowledge.{Holds}
use Rattle.known_words.specs.declared.knowledge.Knowledge.{Knowledge}
use Rattle.known_words.specs.declared.words.Known.{Known}
use Rattle.known_words.specs.declared.words.Range.{Range}
use Rattle.known_words.specs.declared.words.Sum.{Sum}

-- each word in the range is in the other
abbrev pub IsPartOf : (range other : Range) → Type 0
IsPartOf range other = (word : ℕ) → IsIn range word → IsIn other word

-- each word in the range is the sum
abbrev pub IsCounted : Range → Sum → Type 0
IsCounted range sum = (entry turns : List ℕ) (word : ℕ) → IsIn range word → IsSum entry turns sum word

-- each word that is the sum is the other
abbrev pub IsSumOf : (sum other : Sum) → Type 0
IsSumOf sum other = (entry turns : List ℕ) (word : ℕ) → IsSum entry turns sum word → IsSum entry turns other word

-- of each word that is known so the other is known too
abbrev pub ImpliesWord : (known other : Known) → Type 0
ImpliesWord known other =
    (entry turns : List ℕ) (word : ℕ) → IsKnown entry turns known word → IsKnown entry turns other word

-- of all registers of which the first is known the second is known too
abbrev pub Implies : (known other : Knowledge) → Type 0
Implies known other =
    (entry turns now : List ℕ) → Holds entry turns known now → Holds entry turns other now
