use Rattle.statement.specs.declared.stated.Loop.{Loop}
use Rattle.text_page.proofs.MadeLaws.{made_all, made_more}
use Rattle.text_page.proofs.notes.bounds_of.Goals as goal

pub loop-stated-preserved : goal.loop-stated-preserved
loop-stated-preserved c =
    made_more (λ (l : Loop). (l.header, l.bound)) c.args.loops.now c.loop-stated.stated-index _ c.loop-stated.bounds c.insert.new.self c.loop-stated-test.true c.loop-stated.invariant c.in_ok-insert.ensures.updates

pub returns : goal.returns
returns c = made_all (λ (l : Loop). (l.header, l.bound)) c.args.loops.now c.loop-stated.stated-index c.loop-stated.bounds c.loop-stated-test.false c.loop-stated.invariant
