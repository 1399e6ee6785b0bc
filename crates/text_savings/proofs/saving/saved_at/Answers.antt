use Rattle.text_savings.specs.Carried.{times_in}
use Rattle.text_savings.specs.Savings.{IsWordSaved}
use Rattle.text_rows.proofs.RowLaws.{all_parts, so_far_one}
use Rattle.text_savings.proofs.saving.saved_at.Goals as goal

pub loop-at-preserved : goal.loop-at-preserved
loop-at-preserved c =
    so_far_one (IsWordSaved c.args.carried.statement.now c.args.carried.profile.now (times_in c.args.carried.times.now)) c.args.words.now c.loop-at.at-index _ c.new-found.result.items c.loop-at.found.items
    c.push_word.new.found.items c.loop-at.invariant c.loop-at-test.true c.in_ok-push_word.ensures

pub returns : goal.returns
returns c =
    all_parts (IsWordSaved c.args.carried.statement.now c.args.carried.profile.now (times_in c.args.carried.times.now)) c.args.words.now c.loop-at.at-index c.new-found.result.items c.loop-at.found.items
    c.new-found.ensures.items c.loop-at.invariant c.loop-at-test.false
