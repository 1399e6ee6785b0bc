-- What is known where a condition holds, by what is known before.
use Rattle.std.specs.Prelude.{◌≡◌, ℕ, true, List}
use Rattle.arm2_decode.specs.Conditions.{condition_holds}
use Rattle.arm2_decode.specs.declared.names.Cond.{Cond}
use Rattle.arm2_effect.specs.Modes.{r15_in}
use Rattle.arm2_effect.specs.ProgramCounter.{flags_of}
use Rattle.known_words.specs.Known.{IsKnown}
use Rattle.known_words.specs.Knowledge.{Holds}
use Rattle.known_words.specs.declared.knowledge.Knowledge.{Knowledge}
use Rattle.known_words.specs.declared.words.Known.{Known}

-- what is known of a word that is such
abbrev pub NarrowsWord : (IsSuch : ℕ → Type 0) → (known result : Known) → Type 0
NarrowsWord IsSuch known result =
    (entry turns : List ℕ) (word : ℕ) → IsSuch word → IsKnown entry turns known word
    → IsKnown entry turns result word

-- what is known where the condition holds
abbrev pub Narrows : Cond → (before result : Knowledge) → Type 0
Narrows condition before result =
    (entry turns now : List ℕ) → condition_holds condition (flags_of (r15_in now)) ≡ true
    → Holds entry turns before now → Holds entry turns result now
