use Rattle.std.proofs.Common.{◌-◌, ◌+◌, arith}
use Rattle.text_draft.proofs.FlatLaws.{blanks_more}
use Rattle.text_draft.proofs.draft_rows.put_blanks.Goals as goal

pub loop-preserved : goal.loop-preserved
loop-preserved c =
    let left = c.args.count - c.loop.counter in
    let after = c.args.count - (c.loop.counter + 1) in
    blanks_more left after c.loop.out.items c.put.new.out.items _ (omega (arith, c.loop-test.true)) c.loop.invariant
    c.in_ok-put.ensures
