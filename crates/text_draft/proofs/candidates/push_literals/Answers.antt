use Rattle.std.proofs.Common.{arith, refl, subst}
use Rattle.std.proofs.lemmas.List.{take_all}
use Rattle.text_draft.specs.Candidates.{HasWord, IsLiteral}
use Rattle.text_draft.specs.Exploring.{Gains}
use Rattle.text_draft.proofs.CandidateLaws.{literals_more}
use Rattle.text_draft.proofs.WayLaws.{gains_none}
use Rattle.text_draft.proofs.candidates.push_literals.Goals as goal

pub loop-word-init : goal.loop-word-init
loop-word-init c = gains_none _ _ (λ a h. absurd (omega (arith, h.1.1)))

pub loop-word-preserved : goal.loop-word-preserved
loop-word-preserved c =
    literals_more c.args.image.now c.args.words.now c.loop-word.word-index _ _ _ c.args.out.now.items c.loop-word.out.items
    c.push_word.new.out.items c.loop-word-test.true refl refl c.loop-word.invariant c.in_ok-push_word.ensures

pub returns : goal.returns
returns c =
    subst (λ t. Gains (λ a. HasWord c.args.image.now a × IsLiteral t a) c.args.out.now.items c.loop-word.out.items)
    (take_all c.loop-word.word-index c.args.words.now c.loop-word-test.false) c.loop-word.invariant
