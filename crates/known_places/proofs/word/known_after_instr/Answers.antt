use Rattle.std.specs.Prelude.{IfSome}
use Rattle.known_places.specs.Words.{Carries}
use Rattle.known_places.proofs.word.known_after_instr.Goals as goal
use Rattle.known_places.proofs.WordLemmas.{done_known, instr_skipped}

pub returns-in-Do : goal.returns-in-Do
returns-in-Do c = λ word means.
    rw c.in-Do.is
    (done_known c.args.instr.now c.args.address c.args.before.now c.narrowed.result c.narrowed.ensures
    c.after.result c.after.ensures.known word means)

pub returns-in-Skip : goal.returns-in-Skip
returns-in-Skip c = λ word means.
    rw c.in-Skip.is
    (instr_skipped c.args.instr.now c.args.address c.args.before.now c.narrowed-in-Skip.result
    c.narrowed-in-Skip.ensures word means)
