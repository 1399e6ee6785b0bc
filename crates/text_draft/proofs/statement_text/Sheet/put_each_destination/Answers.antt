use Rattle.std.proofs.Common.{◌-◌, ◌+◌, arith}
use Rattle.text_draft.specs.DraftText.{destination_text}
use Rattle.text_draft.proofs.FlatLaws.{words_more}
use Rattle.text_draft.proofs.statement_text.Sheet.put_each_destination.Goals as goal

pub loop-preserved : goal.loop-preserved
loop-preserved c =
    let left = c.args.table.branches - c.loop.counter in
    let after = c.args.table.branches - (c.loop.counter + 1) in
    words_more (destination_text c.args.self.now.lines.now) c.loop.at c.ahead_of-at.result left after c.loop.out.items
    c.put_element.new.out.items _ (omega (arith, c.loop-test.true)) c.loop.invariant c.in_ok-put_element.ensures
    c.ahead_of-at.ensures.sum
