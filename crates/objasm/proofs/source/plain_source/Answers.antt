use Rattle.objasm.proofs.FeedLaws.{ok_counted, ok_numbered}
use Rattle.objasm.proofs.source.plain_source.Goals as goal

pub returns-clause-lines : goal.returns-clause-lines
returns-clause-lines c = ok_counted c.args.source.now _ c.translated.ensures.ok

pub returns-clause-origins : goal.returns-clause-origins
returns-clause-origins c = ok_numbered c.args.source.now _ c.translated.ensures.ok
