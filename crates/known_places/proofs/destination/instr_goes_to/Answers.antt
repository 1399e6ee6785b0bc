use Rattle.known_places.proofs.WordLemmas.{instr_goes}
use Rattle.known_places.proofs.destination.instr_goes_to.Goals as goal

pub returns : goal.returns
returns c =
    instr_goes c.args.instr.now c.args.address c.args.before.now c.narrowed.result c.jumps_to.result c.narrowed.ensures
    c.jumps_to.ensures
