use Rattle.text_explained.proofs.ColumnLaws.{blank_more}
use Rattle.text_explained.proofs.cost_columns.put_blanks.Goals as goal

pub loop-preserved : goal.loop-preserved
loop-preserved c =
    blank_more c.loop.counter c.args.out.now.items c.loop.out.items c.push.new.self.items c.loop.invariant c.in_ok-push.ensures.items
