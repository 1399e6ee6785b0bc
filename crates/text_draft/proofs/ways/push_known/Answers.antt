use Rattle.std.proofs.Common.{refl, subst}
use Rattle.std.proofs.lemmas.List.{take_all}
use Rattle.text_draft.specs.Exploring.{Gains}
use Rattle.text_draft.proofs.StatedLaws.{IsKnown, known_more}
use Rattle.text_draft.proofs.ways.push_known.Goals as goal

pub loop-to-preserved : goal.loop-to-preserved
loop-to-preserved c =
    known_more c.args.destinations.now c.loop-to.to-index _ c.args.out.now.items c.loop-to.out.items c.push_if_known.new.out.items
    c.loop-to-test.true refl c.loop-to.invariant c.in_ok-push_if_known.ensures

pub returns : goal.returns
returns c =
    subst (λ t. Gains (IsKnown t) c.args.out.now.items c.loop-to.out.items)
    (take_all c.loop-to.to-index c.args.destinations.now c.loop-to-test.false) c.loop-to.invariant
