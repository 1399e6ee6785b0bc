use Rattle.std.proofs.Common.{ℕ, List}
use Rattle.known_words.specs.Given.{AreGiven}
use Rattle.known_words.specs.Knowledge.{AreWords, Holds}
use Rattle.known_words.proofs.knowledge.Knowledge.given.Given as goal

abbrev pub invariant-loop-number : goal.invariant-loop-number
invariant-loop-number l =
    (entry turns : List ℕ) → AreWords entry → AreGiven l.facts entry → Holds entry turns l.known entry
