use Rattle.text_refusals.proofs.word_rows.put_image_row.Goals as goal

pub returns-in-Some : goal.returns-in-Some
returns-in-Some c = rw c.in-Some.is c.put_shown_row.ensures
