use Rattle.text_explained.proofs.shown_texts.+cut_at.Given as goal

abbrev pub decreases-cut_at : goal.decreases-cut_at
decreases-cut_at l = l.most
