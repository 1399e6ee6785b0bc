use Rattle.machine_file.proofs.StartLemmas.{words_next}
use Rattle.machine_file.proofs.start.set_words.Goals as goal

pub loop-i-preserved : goal.loop-i-preserved
loop-i-preserved c =
    words_next c.args.registers.now c.args.words.now _ c.loop-i.i c.args.machine.now c.loop-i.machine c.set.new.self c.requires.ordered c.requires.known c.requires.room c.loop-i-test.true c.loop-i.invariant c.set.ensures
