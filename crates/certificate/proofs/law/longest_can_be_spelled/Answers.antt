use Rattle.certificate.proofs.law.longest_can_be_spelled.Goals as goal
use Rattle.certificate.proofs.LongestLaws.{longest_is_spelled}

pub returns : goal.returns
returns c = λ flow tree l formed t is. longest_is_spelled flow formed tree t l is
