use Rattle.std.proofs.Common.{◌++◌, replicate}
use Rattle.text_page.specs.declared.page_lines.PageLine.TheVariants.{Ended}
use Rattle.text_page.proofs.LineLaws.{ends_all, ends_more}
use Rattle.text_page.proofs.page_lines.put_ends.Goals as goal

pub loop-preserved : goal.loop-preserved
loop-preserved c =
    ends_more c.loop.lines.items (c.args.lines.now.items ++ replicate c.args.count Ended) c.push.new.self.items c.args.count c.loop.counter c.loop-test.true c.loop.invariant c.in_ok-push.ensures.items

pub returns : goal.returns
returns c = ends_all c.loop.lines.items (c.args.lines.now.items ++ replicate c.args.count Ended) c.args.count c.loop.counter c.loop-test.false c.loop.invariant
