use Rattle.text_explained.proofs.ToldLaws.{no_ticks_at, no_ticks_on}
use Rattle.text_explained.proofs.law.folded_rows_have_no_ticks.Goals as goal

pub returns-clause-lines : goal.returns-clause-lines
returns-clause-lines c = no_ticks_on

pub returns-clause-words : goal.returns-clause-words
returns-clause-words c = no_ticks_at
