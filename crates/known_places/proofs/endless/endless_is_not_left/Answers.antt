use Rattle.known_places.proofs.NotKeptLemmas.{none_kept_enters, none_kept_leaves}
use Rattle.known_places.proofs.endless.endless_is_not_left.Goals as goal

pub returns-clause-leaves : goal.returns-clause-leaves
returns-clause-leaves c = none_kept_leaves

pub returns-clause-enters : goal.returns-clause-enters
returns-clause-enters c = none_kept_enters
