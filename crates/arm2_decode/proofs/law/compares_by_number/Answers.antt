use Rattle.arm2_decode.proofs.NameLemmas.{compare_numbered}
use Rattle.arm2_decode.proofs.law.compares_by_number.Goals as goal

pub returns : goal.returns
returns c = compare_numbered
