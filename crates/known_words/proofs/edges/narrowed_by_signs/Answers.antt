use Rattle.std.proofs.Common.{sym, subst}
use Rattle.arm2_effect.specs.Modes.{r15_in}
use Rattle.arm2_effect.specs.Operands.{current_in}
use Rattle.arm2_effect.specs.ProgramCounter.{flags_of}
use Rattle.known_words.specs.Known.{IsKnown}
use Rattle.known_words.specs.Knowledge.{AreFlagsOf}
use Rattle.known_words.proofs.edges.narrowed_by_signs.Goals as goal

pub returns : goal.returns
returns c = λ entry turns now is holds.
    let word = current_in c.args.register now in
    let signs = subst (λ k. AreFlagsOf k now) c.requires holds.flags in
    let known = subst (λ k. IsKnown entry turns k word) (sym c.of.ensures) (holds.registers c.args.register signs.0) in
    c.learned.ensures entry turns now holds
    (c.by_signs.ensures (flags_of (r15_in now)) entry turns word (signs.1, is) known)
