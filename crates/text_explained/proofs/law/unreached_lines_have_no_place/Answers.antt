use Rattle.text_explained.proofs.TotalLaws.{unreached}
use Rattle.text_explained.proofs.law.unreached_lines_have_no_place.Goals as goal

pub returns : goal.returns
returns c = unreached
