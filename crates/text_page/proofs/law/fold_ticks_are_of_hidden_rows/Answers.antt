use Rattle.text_page.proofs.FoldLaws.{fold_ticks_are}
use Rattle.text_page.proofs.law.fold_ticks_are_of_hidden_rows.Goals as goal

pub returns : goal.returns
returns c = λ parts. fold_ticks_are parts
