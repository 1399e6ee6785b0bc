use Rattle.known_places.proofs.word.never_goes.Goals as goal

pub returns-in-Ok : goal.returns-in-Ok
returns-in-Ok c = λ seen. c.instr_never_goes.ensures seen c.args.word c.in-Ok.ensures.found
