use Rattle.known_places.specs.Outside.{MovesOutside, WordGoesOutside}
use Rattle.known_places.proofs.AroundLemmas.{some_as}
use Rattle.known_places.proofs.WordLemmas.{instr_outside}
use Rattle.known_places.proofs.word.instr_goes_outside.Goals as goal

pub returns : goal.returns
returns c = λ word means.
    let i = c.args.instr.now in
    let there = c.narrowed.result in
    some_as (MovesOutside c.args.class i.operation c.args.address there)
    (WordGoesOutside c.args.class word c.args.address c.args.before.now) c.moves_outside.result
    (λ range moves. instr_outside c.args.class i c.args.address c.args.before.now there range c.narrowed.ensures moves word means)
    c.moves_outside.ensures
