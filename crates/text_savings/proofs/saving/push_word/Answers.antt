use Rattle.std.proofs.lemmas.Result.{on_ok_weaker}
use Rattle.text_savings.specs.Carried.{times_in}
use Rattle.text_savings.proofs.FoundLaws.{word_more}
use Rattle.text_savings.proofs.saving.push_word.Goals as goal

pub returns : goal.returns
returns c =
    on_ok_weaker c.push_saved.result
    (word_more c.args.carried.statement.now c.args.carried.profile.now (times_in c.args.carried.times.now) c.args.at c.args.word c.times_in-times.result c.word_gain-gain.result
    c.args.found.now.items c.push_saved.new.found.items c.times_in-times.ensures c.word_gain-gain.ensures)
    c.push_saved.ensures
