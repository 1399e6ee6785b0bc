use Rattle.flow_graph.proofs.tight.placed.Goals as goal

pub returns-clause-placed : goal.returns-clause-placed
returns-clause-placed c = record {
  start = c.in_ok-machine.machine;
  begun = c.in_ok-machine.ensures;
  is = rw (← c.words.ensures.words) c.in_ok-put_in_turn.ensures.put;
}

pub put_in_turn-requires-clause-fits : goal.put_in_turn-requires-clause-fits
put_in_turn-requires-clause-fits c = c.requires.fits c.in_ok-machine.machine c.in_ok-machine.ensures

pub put_in_turn-requires-clause-all_below : goal.put_in_turn-requires-clause-all_below
put_in_turn-requires-clause-all_below c = c.words.ensures.below

pub put_in_turn-requires-clause-all_fit : goal.put_in_turn-requires-clause-all_fit
put_in_turn-requires-clause-all_fit c =
    rw c.words.ensures.words (c.requires.all_fit c.in_ok-machine.machine c.in_ok-machine.ensures)
