use Rattle.text_explained.proofs.ToldLaws.{told_is_passed}
use Rattle.text_explained.proofs.law.rows_with_ticks_have_passes.Goals as goal

pub returns : goal.returns
returns c = told_is_passed
