use Rattle.known_places.proofs.word.stays_in.Goals as goal
use Rattle.known_places.proofs.WordLemmas.{unallocated_stays}

pub returns-in-Ok : goal.returns-in-Ok
returns-in-Ok c = λ seen. c.instr_stays_in.ensures seen c.args.word c.in-Ok.ensures.found

pub returns-in-Err : goal.returns-in-Err
returns-in-Err c = λ seen.
    unallocated_stays c.args.class c.args.word c.args.address c.args.before.now c.in-Err.field-0
    c.in-Err.ensures.unallocated
