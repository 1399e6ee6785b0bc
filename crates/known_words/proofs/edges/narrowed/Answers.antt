use Rattle.arm2_effect.specs.Modes.{r15_in}
use Rattle.arm2_effect.specs.ProgramCounter.{flags_of}
use Rattle.known_words.proofs.edges.narrowed.Goals as goal

pub returns : goal.returns
returns c = λ entry turns now is holds.
    c.narrowed_where.ensures entry turns now (c.holding.ensures (flags_of (r15_in now)) is) holds
