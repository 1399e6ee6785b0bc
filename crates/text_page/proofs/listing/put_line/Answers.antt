use Rattle.text_page.proofs.listing.put_line.Goals as goal

pub returns-in-Row : goal.returns-in-Row
returns-in-Row c = rw c.in-Row.is c.put_row.ensures
