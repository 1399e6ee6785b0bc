-- How the turns of loops change along an edge, and what that makes of what is known.
use Rattle.std.specs.Prelude.{◌≡◌, ℕ, ◌+◌, List, slice_index}
use Rattle.known_words.specs.Known.{IsKnown, IsSum}
use Rattle.known_words.specs.Knowledge.{Holds}
use Rattle.known_words.specs.declared.knowledge.Knowledge.{Knowledge}
use Rattle.known_words.specs.declared.turning.Depth.{Depth}
use Rattle.known_words.specs.declared.turning.Depth.TheVariants.{Fourth, Outermost, Second, Third}
use Rattle.known_words.specs.declared.turning.Turn.{Turn}
use Rattle.known_words.specs.declared.turning.Turn.TheVariants.{Again, Begins, Stays}
use Rattle.known_words.specs.declared.turning.Turns.{Turns}
use Rattle.known_words.specs.declared.words.Known.{Known}
use Rattle.known_words.specs.declared.words.Sum.{Sum}

-- how often the loop of the depth has turned
abbrev pub turns_at : Depth → List ℕ → ℕ
turns_at Outermost turns = slice_index turns 0
turns_at Second turns = slice_index turns 1
turns_at Third turns = slice_index turns 2
turns_at Fourth turns = slice_index turns 3

-- so often a loop has turned after an edge, where before it that often
abbrev pub IsTurned : Turn → (before after : ℕ) → Type 0
IsTurned Stays before after = after ≡ before
IsTurned Again before after = after ≡ before + 1
IsTurned Begins before after = after ≡ 0

-- the same of each of the four outermost loops
pub record AreTurned (turns : Turns) (before after : List ℕ) : Type 0 where
  pub outermost : IsTurned turns.outermost (slice_index before 0) (slice_index after 0)
  pub second : IsTurned turns.second (slice_index before 1) (slice_index after 1)
  pub third : IsTurned turns.third (slice_index before 2) (slice_index after 2)
  pub fourth : IsTurned turns.fourth (slice_index before 3) (slice_index after 3)

-- a word that is the one sum before the edge is the other after it
abbrev pub BecomesSum : Turns → (sum next : Sum) → Type 0
BecomesSum turns sum next =
    (entry before after : List ℕ) (word : ℕ) → AreTurned turns before after → IsSum entry before sum word
    → IsSum entry after next word

-- of a word of which the one is known before the edge the other is known after it
abbrev pub BecomesWord : Turns → (known next : Known) → Type 0
BecomesWord turns known next =
    (entry before after : List ℕ) (word : ℕ) → AreTurned turns before after → IsKnown entry before known word
    → IsKnown entry after next word

-- of registers of which the one is known before the edge the other is known after it
abbrev pub Becomes : Turns → (known next : Knowledge) → Type 0
Becomes turns known next =
    (entry before after now : List ℕ) → AreTurned turns before after → Holds entry before known now
    → Holds entry after next now

-- no word is so known where the loop of the depth has turned so often
abbrev pub HasNoneAt : Depth → (count : ℕ) → Known → Type 0
HasNoneAt depth count known =
    (entry turns : List ℕ) (word : ℕ) → turns_at depth turns ≡ count → IsKnown entry turns known word → ⊥

-- the loop of the depth does not turn so often where this is known
abbrev pub NeverTurns : Depth → (count : ℕ) → Knowledge → Type 0
NeverTurns depth count known =
    (entry turns now : List ℕ) → turns_at depth turns ≡ count → Holds entry turns known now → ⊥
