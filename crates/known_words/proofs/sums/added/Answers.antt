use Rattle.known_words.proofs.sums.added.Goals as goal

pub returns-in-Word-second : goal.returns-in-Word-second
returns-in-Word-second c =
    rw (c.in-Word.is, c.in-Word-second.is)
    (λ entry turns x y p q.
    c.in_range.ensures entry turns _ (c.sum_of.ensures entry turns x y p.0 q.0)
    (c.range_of_sum.ensures x y p.1 q.1))
