use Rattle.known_words.proofs.turning.has_none_at.Goals as goal

pub returns-in-Word : goal.returns-in-Word
returns-in-Word c = rw c.in-Word.is c.misses.ensures
