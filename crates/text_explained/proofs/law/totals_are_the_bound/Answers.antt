use Rattle.text_explained.proofs.SourceLaws.{all_sum}
use Rattle.text_explained.proofs.law.totals_are_the_bound.Goals as goal

pub returns : goal.returns
returns c = all_sum
