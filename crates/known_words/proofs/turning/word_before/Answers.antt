use Rattle.known_words.proofs.turning.word_before.Goals as goal

pub returns-in-Word : goal.returns-in-Word
returns-in-Word c =
    rw c.in-Word.is (λ entry before after word t p. (c.sum_before.ensures entry before after word t p.0, p.1))

pub returns-in-Any : goal.returns-in-Any
returns-in-Any c = rw c.in-Any.is (λ entry before after word t p. tt)

pub returns-in-Address : goal.returns-in-Address
returns-in-Address c = rw c.in-Address.is (λ entry before after word t p. p)
