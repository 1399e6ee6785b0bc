use Rattle.std.proofs.Common.{arith, refl, subst}
use Rattle.std.proofs.lemmas.List.{take_all}
use Rattle.text_draft.specs.Candidates.{HasWord, IsNamedAt}
use Rattle.text_draft.specs.Exploring.{Gains}
use Rattle.text_draft.proofs.CandidateLaws.{named_more}
use Rattle.text_draft.proofs.WayLaws.{gains_none}
use Rattle.text_draft.proofs.candidates.push_all_named.Goals as goal

pub loop-at-init : goal.loop-at-init
loop-at-init c = gains_none _ _ (λ a h. absurd (omega (arith, h.1.1.1)))

pub loop-at-preserved : goal.loop-at-preserved
loop-at-preserved c =
    named_more c.args.image.now c.args.addresses.now c.loop-at.at-index _ c.args.out.now.items c.loop-at.out.items
    c.push_named.new.out.items c.loop-at-test.true refl c.loop-at.invariant c.in_ok-push_named.ensures

pub returns : goal.returns
returns c =
    subst (λ t. Gains (λ a. HasWord c.args.image.now a × IsNamedAt c.args.image.now t a) c.args.out.now.items c.loop-at.out.items)
    (take_all c.loop-at.at-index c.args.addresses.now c.loop-at-test.false) c.loop-at.invariant
