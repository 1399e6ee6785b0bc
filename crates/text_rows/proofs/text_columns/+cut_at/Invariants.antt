use Rattle.text_rows.proofs.text_columns.+cut_at.Given as goal

abbrev pub decreases-cut_at : goal.decreases-cut_at
decreases-cut_at l = l.most
