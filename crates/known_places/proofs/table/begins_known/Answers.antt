use Rattle.std.specs.Prelude.{[]}
use Rattle.known_places.specs.Around.{around_at, turns_in}
use Rattle.known_places.proofs.table.begins_known.Goals as goal

pub returns : goal.returns
returns c = λ seen spans around entry words are.
    let turns = turns_in spans (around_at around 0) [] in
    c.implies.ensures seen entry turns entry (c.given.ensures entry turns words are)
