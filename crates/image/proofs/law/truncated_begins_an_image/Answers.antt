use Rattle.image.proofs.AcceptLemmas.{are_bytes}
use Rattle.image.proofs.CutLemmas.{truncated_begins}
use Rattle.image.proofs.FrontLemmas.{begun_truncated}
use Rattle.image.proofs.law.truncated_begins_an_image.Goals as goal

pub returns-clause-begins : goal.returns-clause-begins
returns-clause-begins c = λ bytes all e. truncated_begins bytes (are_bytes bytes all) e

pub returns-clause-truncated : goal.returns-clause-truncated
returns-clause-truncated c = begun_truncated
