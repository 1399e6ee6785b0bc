use Rattle.known_places.proofs.word.instr_stays_in.Goals as goal
use Rattle.known_places.proofs.WordLemmas.{instr_stays}

pub returns : goal.returns
returns c = λ seen.
    instr_stays c.args.class c.args.instr.now c.args.address c.args.before.now c.narrowed.result c.narrowed.ensures
    (c.moves_in.ensures seen)
