use Rattle.asm_text.proofs.FeedLaws.{first_feed, no_feed}
use Rattle.asm_text.proofs.lines.feed_len.Goals as goal

pub returns-in-Some-clause-len : goal.returns-in-Some-clause-len
returns-in-Some-clause-len c = first_feed c.args.text.now c.memchr.result _ c.memchr.ensures c.in-Some.is

pub returns-in-None-clause-len : goal.returns-in-None-clause-len
returns-in-None-clause-len c = no_feed c.args.text.now c.memchr.result c.memchr.ensures c.in-None.is
