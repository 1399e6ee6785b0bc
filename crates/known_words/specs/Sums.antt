-- Sums and differences of known words.
use Rattle.std.specs.Prelude.{◌≡◌, ℕ, ◌+◌, ◌-◌, ◌%◌, ◌^◌, List}
use Rattle.known_words.specs.Known.{IsKnown, turned}
use Rattle.known_words.specs.declared.words.Known.{Known}
use Rattle.known_words.specs.declared.words.Steps.{Steps}

abbrev pub Adds : (first second result : Known) → Type 0
Adds first second result =
    (entry turns : List ℕ) (x y : ℕ) → IsKnown entry turns first x → IsKnown entry turns second y
    → IsKnown entry turns result ((x + y) % 2 ^ 32)

abbrev pub Subtracts : (first second result : Known) → Type 0
Subtracts first second result =
    (entry turns : List ℕ) (x y : ℕ) → IsKnown entry turns first x → IsKnown entry turns second y
    → IsKnown entry turns result ((x + 2 ^ 32 - y) % 2 ^ 32)

-- the steps are a sum, or a difference, but for multiples of 2 ^ 32
abbrev pub AddsSteps : (first second result : Steps) → Type 0
AddsSteps first second result =
    (turns : List ℕ) → (turned first turns + turned second turns) % 2 ^ 32 ≡ turned result turns % 2 ^ 32

abbrev pub SubtractsSteps : (first second result : Steps) → Type 0
SubtractsSteps first second result =
    (turns : List ℕ) → (turned result turns + turned second turns) % 2 ^ 32 ≡ turned first turns % 2 ^ 32
