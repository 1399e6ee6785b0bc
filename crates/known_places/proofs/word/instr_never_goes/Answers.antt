use Rattle.known_places.proofs.WordLemmas.{instr_not_done, instr_not_skipped}
use Rattle.known_places.proofs.word.instr_never_goes.Goals as goal

pub returns-in-Do : goal.returns-in-Do
returns-in-Do c = λ seen word means.
    rw c.in-Do.is
    (instr_not_done c.args.instr.now c.args.before.now c.narrowed.result c.narrowed.ensures (c.never_holds.ensures seen) word means)

pub returns-in-Skip : goal.returns-in-Skip
returns-in-Skip c = λ seen word means.
    rw c.in-Skip.is
    (instr_not_skipped c.args.instr.now c.args.before.now c.narrowed-in-Skip.result c.narrowed-in-Skip.ensures
    (c.never_holds-in-Skip.ensures seen) word means)
