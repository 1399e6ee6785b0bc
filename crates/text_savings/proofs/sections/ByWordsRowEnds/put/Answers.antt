use Rattle.text_savings.proofs.sections.ByWordsRowEnds.put.Goals as goal

pub returns-in-Word : goal.returns-in-Word
returns-in-Word c = rw c.in-Word.is c.put_shown_row.ensures
