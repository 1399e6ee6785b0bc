use Rattle.std.proofs.Common.{rules}
use Rattle.objasm.proofs.SourceLaws.{numbers_end, numbers_go}
use Rattle.objasm.proofs.source.put_origins.Goals as goal

pub loop-after-preserved : goal.loop-after-preserved
loop-after-preserved c =
    numbers_go c.args.number c.loop-after.origins.items c.push.new.self.items c.loop-after.rest.now _ c.in-Some.after.now _ c.in-Some.ensures.0 (search rules) c.loop-after.invariant

pub returns : goal.returns
returns c = numbers_end c.args.number c.loop-after.origins.items c.loop-after.rest.now _ c.in_default.ensures c.loop-after.invariant
