use Rattle.known_places.proofs.destination.goes_to.Goals as goal

pub returns-in-Ok : goal.returns-in-Ok
returns-in-Ok c = c.instr_goes_to.ensures c.args.word c.in-Ok.ensures.found
