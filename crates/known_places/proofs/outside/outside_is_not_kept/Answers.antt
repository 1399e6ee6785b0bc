use Rattle.known_places.proofs.NotKeptLemmas.{none_kept_does}
use Rattle.known_places.proofs.outside.outside_is_not_kept.Goals as goal

pub returns : goal.returns
returns c = none_kept_does
