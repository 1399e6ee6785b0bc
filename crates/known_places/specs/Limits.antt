-- How often the loops around have turned at most, and what that says of known words.
use Rattle.std.specs.Prelude.{◌≡◌, ℕ, ◌+◌, ◌*◌, ◌^◌, ◌≤◌, List, Contains, slice_index}
use Rattle.numbered_walks.specs.Reach.{most_in}
use Rattle.numbered_walks.specs.declared.span.NumberedEdge.{NumberedEdge}
use Rattle.numbered_walks.specs.declared.span.Span.{Span}
use Rattle.known_words.specs.Known.{IsIn, IsKnown, IsSum}
use Rattle.known_words.specs.declared.words.Known.{Known}
use Rattle.known_words.specs.declared.words.Range.{Range}
use Rattle.known_words.specs.declared.words.Sum.{Sum}
use Rattle.known_places.specs.declared.limits.Limits.{Limits}

-- each stay of the walk in a span takes at most its bound of back edges
abbrev pub KeepsSpans : List Span → List NumberedEdge → Type 0
KeepsSpans spans walk = (s : Span) → Contains spans s → most_in s walk ≤ s.bound

-- none of the four outermost loops around has turned more often
pub record AreWithin (limits : Limits) (turns : List ℕ) : Type 0 where
  pub outermost : slice_index turns 0 ≤ limits.outermost
  pub second : slice_index turns 1 ≤ limits.second
  pub third : slice_index turns 2 ≤ limits.third
  pub fourth : slice_index turns 3 ≤ limits.fourth

-- to add so much on 32 bits takes at most so much away
pub record Lowers (added most : ℕ) : Type 0 where
  pub down : ℕ
  pub times : ℕ
  pub within : down ≤ most
  pub is : added + down ≡ times * 2 ^ 32

-- where the loops around have turned no more often, each word that is the sum is in the range
abbrev pub Reaches : Sum → Limits → Range → Type 0
Reaches sum limits range =
    (entry turns : List ℕ) (word : ℕ) → AreWithin limits turns → IsSum entry turns sum word → IsIn range word

-- of a word of which the one is known the other is known too, where the loops around have turned no more
-- often
abbrev pub LimitsWord : Limits → (known result : Known) → Type 0
LimitsWord limits known result =
    (entry turns : List ℕ) (word : ℕ) → AreWithin limits turns → IsKnown entry turns known word
    → IsKnown entry turns result word
