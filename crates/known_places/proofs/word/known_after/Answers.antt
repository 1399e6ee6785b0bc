use Rattle.known_places.proofs.word.known_after.Goals as goal
use Rattle.known_places.proofs.WordLemmas.{unallocated_carries}

pub returns-in-Err : goal.returns-in-Err
returns-in-Err c =
    unallocated_carries c.args.word c.args.address c.args.label c.args.before.now c.in-Err.field-0
    c.in-Err.ensures.unallocated
