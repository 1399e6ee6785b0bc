use Rattle.control_flow.proofs.StrayLemmas.{sought_more, sought_all}
use Rattle.control_flow.proofs.strays.stray_target.Goals as goal

pub loop-address-preserved : goal.loop-address-preserved
loop-address-preserved c =
    sought_more c.args.image.now c.args.statement.now c.loop-address.address-iterator c.next.new.self c.in-Some.address.now c.in-Some.ensures.steps c.loop-address.invariant (c.is_writer_at.ensures.yes c.if-not-is_writer_at.false)

pub returns-clause-none : goal.returns-clause-none
returns-clause-none c = λ _. sought_all c.args.image.now c.args.statement.now c.loop-address.address-iterator c.in-None.ensures.steps.0 c.loop-address.invariant
