use Rattle.std.proofs.Common.{arith, None}
use Rattle.test_vectors.proofs.ChainLaws.{as_text, two}
use Rattle.test_vectors.proofs.TextLaws.{words_from}
use Rattle.test_vectors.proofs.states.put_words.Goals as goal

pub returns-in-len1-up : goal.returns-in-len1-up
returns-in-len1-up g c =
    as_text g.O.Output.taken g.O.Output.failures (two g.O.Output.taken g.O.Output.failures c.put_pair.ensures c.put_others.ensures)
    (words_from c.args.words.now (record { address = 0; word = None }) (omega (arith, c.in-len1-up.len_at_least)))
