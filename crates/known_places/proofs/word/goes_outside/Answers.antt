use Rattle.known_places.proofs.word.goes_outside.Goals as goal

pub returns-in-Ok : goal.returns-in-Ok
returns-in-Ok c = c.instr_goes_outside.ensures c.args.word c.in-Ok.ensures.found
