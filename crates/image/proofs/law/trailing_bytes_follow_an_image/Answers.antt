use Rattle.image.proofs.AcceptLemmas.{are_bytes}
use Rattle.image.proofs.TrailLemmas.{passed_trailing, trailing_passes}
use Rattle.image.proofs.law.trailing_bytes_follow_an_image.Goals as goal

pub returns-clause-follow : goal.returns-clause-follow
returns-clause-follow c = λ bytes all e. trailing_passes bytes (are_bytes bytes all) e

pub returns-clause-trailing : goal.returns-clause-trailing
returns-clause-trailing c = passed_trailing
