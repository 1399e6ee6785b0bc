use Rattle.std.proofs.lemmas.Result.{IfErr-weaker}
use Rattle.handlers.proofs.PlacingLemmas.{file_lacks}
use Rattle.handlers.proofs.placing.put_all.Goals as goal

pub returns-clause-fault : goal.returns-clause-fault
returns-clause-fault c =
    IfErr-weaker c.put_words.result _ _
    (file_lacks c.args.machine.now c.load.new.machine c.args.image.now c.words.result.now c.args.file.now
    c.in_ok-load.ensures.ok c.words.ensures.words) c.put_words.ensures.fault
