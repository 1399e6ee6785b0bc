use Rattle.test_vectors.proofs.TextLaws.{moved_put}
use Rattle.test_vectors.proofs.ChainLaws.{as_text, two}
use Rattle.test_vectors.proofs.cycles.put_moved.Goals as goal

pub loop-number-preserved : goal.loop-number-preserved
loop-number-preserved g c =
    as_text g.O.Output.taken g.O.Output.failures (two g.O.Output.taken g.O.Output.failures c.loop-number.invariant c.put_moved_word.ensures)
    (moved_put c.args.memc.now c.args.moved.store c.args.moved.address c.loop-number.number)
