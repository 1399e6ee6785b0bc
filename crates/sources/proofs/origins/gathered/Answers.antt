use Rattle.sources.proofs.OriginLaws.{all_put, at_first, fewer, one_more, one_refused, refused_as}
use Rattle.sources.proofs.origins.gathered.Goals as goal

pub loop-next-init : goal.loop-next-init
loop-next-init c = at_first c.args.origins.now c.args.placed.now c.in-Some.first c.in-Some.others.now c.new-out.result.items c.in-Some.ensures c.new-out.ensures.items

pub returns-in_err-line-clause-fault : goal.returns-in_err-line-clause-fault
returns-in_err-line-clause-fault c =
    refused_as c.from_residual.result c.in_err-line.field-0.0 _ c.from_residual.ensures.1
    (one_refused c.args.origins.now c.args.placed.now c.loop-next.numbers.now c.loop-next.line c.in-Some-first_placed.next c.loop-next.lines.now c.in-Some-first_placed.after.now c.loop-next.out.items
    c.in_err-line.field-0.0 c.loop-next.invariant c.in-Some-first_placed.ensures c.in_err-line.ensures.fault)

pub loop-next-smaller : goal.loop-next-smaller
loop-next-smaller c = fewer c.loop-next.lines.now c.in-Some-first_placed.after.now c.in-Some-first_placed.next c.in-Some-first_placed.ensures

pub loop-next-preserved : goal.loop-next-preserved
loop-next-preserved c =
    one_more c.args.origins.now c.args.placed.now c.loop-next.numbers.now c.behind_first-numbers.result.now c.loop-next.line c.in-Some-first_placed.next c.in_ok-line.line c.loop-next.lines.now
    c.in-Some-first_placed.after.now c.loop-next.out.items c.put_before.new.out.items c.loop-next.invariant c.in-Some-first_placed.ensures c.behind_first-numbers.ensures c.in_ok-line.ensures.ok

pub returns-clause-ok : goal.returns-clause-ok
returns-clause-ok c =
    all_put c.args.origins.now c.args.placed.now c.loop-next.numbers.now c.loop-next.line c.loop-next.lines.now c.loop-next.out.items c.push.new.self.items c.loop-next.invariant c.in_default-first_placed.ensures c.in_ok-push.ensures.items
