use Rattle.text_refusals.proofs.word_lines.WordLines.put_place.Goals as goal

pub returns-in-At : goal.returns-in-At
returns-in-At c = rw c.in-At.is c.put_row.ensures
